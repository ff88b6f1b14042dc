use Rattle.std.proofs.Common.{◌<◌, not, sym, ap, ◌∙◌, arith}
use Rattle.wire.proofs.Bools.{of_true}
use Rattle.entry_id.specs.Meaning.{processor_byte, processor_shaped}
use Rattle.entry_id.specs.Text.{not_colon}
use Rattle.entry_id.specs.Scan.{Run}
use Rattle.entry_id.proofs.ReadBack.{as_processor}
use Rattle.entry_id.proofs.RunLaws.{run_on, head_part}
use Rattle.entry_id.proofs.ProcessorLaws.{field-shaped}
use Rattle.canonical_form.proofs.ProcessorLaws.{ends_later, head_run, processor_stops, processor_ends}
use Rattle.canonical_form.proofs.head.processor.Goals.{After-processor_end-r, Else-not-ends}
use Rattle.canonical_form.proofs.head.processor.Goals as goal

-- `head::processor` meets its contract. Assumes nothing.
-- ---- what is known at a place
-- the run from a on
run : (c : After-processor_end-r) → Run processor_byte c.args.id.now c.args.a c.processor_end-r.result
run c =
    let s = c in
    let f = s.requires.1 in
    run_on processor_byte s.args.id.now s.args.a s.args.e c.processor_end-r.result f.low (as_processor _ f.passed) c.processor_end-r.ensures

more : (c : Else-not-ends) → c.args.e < c.processor_end-r.result
more c =
    ends_later c.args.id.now _ _ c.processor_end-r.ensures.low (sym c.ends.ensures ∙ c.if-ends.false) (sym c.ends-2.ensures ∙ c.if-not-ends.false)

head : (c : Else-not-ends) → Run processor_byte c.args.id.now c.args.a c.processor_end-r.result → Run not_colon c.args.id.now c.args.a c.processor_end-r.result
head c h = head_run _ _ _ h.low h.high h.passed (sym c.ends-2.ensures ∙ c.if-not-ends.false)

pub returns-then-ends : goal.returns-then-ends
returns-then-ends c =
    let f = c.requires.1 in
    record { run = head_run _ _ _ f.low f.high (as_processor _ f.passed) (sym c.ends.ensures ∙ c.if-ends.true); shaped = field-shaped _ f.passed }

pub returns-then-not-ends : goal.returns-then-not-ends
returns-then-not-ends c = processor_stops _ _ _ (run (goal.at.returns-then-not-ends c).After-processor_end-r) (sym c.ends-2.ensures ∙ c.if-not-ends.true)

pub bounds-id-a : goal.bounds-id-a
bounds-id-a c = let h = run (goal.at.bounds-id-a c).After-processor_end-r in omega (arith, h.high, more (goal.at.bounds-id-a c).Else-not-ends, c.requires.1.low)

pub overflow_sub-r : goal.overflow_sub-r
overflow_sub-r c = omega (arith, more (goal.at.overflow_sub-r c).Else-not-ends)

pub bounds-id-r : goal.bounds-id-r
bounds-id-r c = let h = run (goal.at.bounds-id-r c).After-processor_end-r in omega (arith, h.high, more (goal.at.bounds-id-r c).Else-not-ends)

pub returns-then-id-a : goal.returns-then-id-a
returns-then-id-a c =
    let r = run (goal.at.returns-then-id-a c).After-processor_end-r in
    let s = (goal.at.returns-then-id-a c).Else-not-ends in
    ap processor_shaped (head_part _ _ _ (head s r)) ∙ processor_ends _ _ _ r (omega (arith, more s, c.requires.1.low)) ∙ ap not c.if-id-a.true

pub returns : goal.returns
returns c =
    let r = run (goal.at.returns c).After-processor_end-r in
    let s = (goal.at.returns c).Else-not-ends in
    record { run = head s r; shaped = of_true _ (processor_ends _ _ _ r (omega (arith, more s, c.requires.1.low)) ∙ ap not c.if-id-a.false) }
