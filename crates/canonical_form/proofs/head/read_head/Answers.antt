use Rattle.std.proofs.Common.{◌≡◌, suc, ◌+◌, ◌<◌, ltb, length, get_or, sym, ◌∙◌, add-one, arith}
use Rattle.entry_id.specs.Meaning.{field_byte, names_processor}
use Rattle.entry_id.specs.Scan.{part, Run}
use Rattle.entry_id.proofs.RunLaws.{byte_inside}
use Rattle.canonical_form.specs.Heads.{HeadAt, ProcessorAt}
use Rattle.canonical_form.proofs.HeadForms.{head, four, four_bad, Fifth, fifth_bad, fifth_proc, env_last, env_bad, sixth_bad, sixth_proc}
use Rattle.canonical_form.proofs.head.read_head.Goals.{After-field_end-e, After-is_proc, Else-byte-ne45, Else-byte-ne45-2}
use Rattle.canonical_form.proofs.head.read_head.Goals as goal

dash-inside : (c : Else-byte-ne45) → c.in_ok-d.d < length c.args.id.now
dash-inside c = byte_inside c.args.id.now c.in_ok-d.d 44 (sym c.byte.ensures ∙ c.if-byte-ne45.false)

fifth : (c : After-field_end-e) → Fifth c.args.id.now c.in_ok-d.d c.field_end-e.result
fifth c =
    let d = c.in_ok-d.d in
    let r : Run field_byte c.args.id.now (d + 1) c.field_end-e.result = c.field_end-e.ensures in
    record { triple = c.in_ok-d.ensures; dash = sym c.byte.ensures ∙ c.if-byte-ne45.false; run = rw (add-one d) at r }

named : (c : After-is_proc) → c.is_proc.result ≡ names_processor (part c.args.id.now (suc c.in_ok-d.d) c.field_end-e.result)
unfolding part
named c =
    let d = c.in_ok-d.d in
    let i : c.is_proc.result ≡ names_processor (part c.args.id.now (d + 1) c.field_end-e.result) = c.is_proc.ensures in
    rw (add-one d) at i

second-dash : (c : Else-byte-ne45-2) → get_or c.args.id.now c.field_end-e.result 0 ≡ 45
second-dash c = sym c.byte-2.ensures ∙ c.if-byte-ne45-2.false

pub returns-in_err-d : goal.returns-in_err-d
returns-in_err-d c = rw c.from_residual.ensures c.in_err-d.ensures

pub returns-then-ends : goal.returns-then-ends
returns-then-ends c = rw c.new.ensures (four _ _ c.in_ok-d.ensures (sym c.ends.ensures ∙ c.if-ends.true))

pub returns-then-byte-ne45 : goal.returns-then-byte-ne45
returns-then-byte-ne45 c = four_bad _ _ c.in_ok-d.ensures (λ y. c.if-byte-ne45.true (c.byte.ensures ∙ y)) (sym c.ends.ensures ∙ c.if-ends.false)

pub overflow_add-d : goal.overflow_add-d
overflow_add-d c = let h = dash-inside (goal.at.overflow_add-d c).Else-byte-ne45 in omega arith

pub field_end-e-requires : goal.field_end-e-requires
field_end-e-requires c = let h = dash-inside (goal.at.field_end-e-requires c).Else-byte-ne45 in omega arith

pub processor-requires : goal.processor-requires
processor-requires c = (omega arith, c.field_end-e.ensures)

pub returns-in_err-p : goal.returns-in_err-p
returns-in_err-p c = rw c.from_residual-in_err-p.ensures (
    fifth_bad _ _ _ (fifth (goal.at.returns-in_err-p c).After-field_end-e) (sym (named (goal.at.returns-in_err-p c).After-is_proc) ∙ c.if-is_proc.true) (rw (add-one c.in_ok-d.d) at c.in_err-p.ensures))

pub returns-then-is_proc : goal.returns-then-is_proc
returns-then-is_proc c =
    let d = c.in_ok-d.d in
    let p : ProcessorAt c.args.id.now (d + 1) c.in_ok-p.p = c.in_ok-p.ensures in
    rw c.new-then-is_proc.ensures (fifth_proc _ _ _ (fifth (goal.at.returns-then-is_proc c).After-field_end-e) (sym (named (goal.at.returns-then-is_proc c).After-is_proc) ∙ c.if-is_proc.true) _ (rw (add-one d) at p))

pub returns-then-ends-2 : goal.returns-then-ends-2
returns-then-ends-2 c =
    rw c.new-then-ends-2.ensures (env_last _ _ _ (fifth (goal.at.returns-then-ends-2 c).After-field_end-e) (sym (named (goal.at.returns-then-ends-2 c).After-is_proc) ∙ c.if-is_proc.false) (sym c.ends-2.ensures ∙ c.if-ends-2.true))

pub returns-then-byte-ne45-2 : goal.returns-then-byte-ne45-2
returns-then-byte-ne45-2 c =
    env_bad _ _ _ (fifth (goal.at.returns-then-byte-ne45-2 c).After-field_end-e) (sym (named (goal.at.returns-then-byte-ne45-2 c).After-is_proc) ∙ c.if-is_proc.false) (λ y. c.if-byte-ne45-2.true (c.byte-2.ensures ∙ y)) (sym c.ends-2.ensures ∙ c.if-ends-2.false)

pub field_end-f-requires : goal.field_end-f-requires
field_end-f-requires c = let h = byte_inside (c.args.id.now) c.field_end-e.result 44 (second-dash (goal.at.field_end-f-requires c).Else-byte-ne45-2) in omega arith

pub processor-requires-2 : goal.processor-requires-2
processor-requires-2 c = (omega arith, c.field_end-f.ensures)

pub returns-in_err-p-2 : goal.returns-in_err-p-2
returns-in_err-p-2 c = rw c.from_residual-in_err-p-2.ensures (
    sixth_bad _ _ _ (fifth (goal.at.returns-in_err-p-2 c).After-field_end-e) (sym (named (goal.at.returns-in_err-p-2 c).After-is_proc) ∙ c.if-is_proc.false) (second-dash (goal.at.returns-in_err-p-2 c).Else-byte-ne45-2) (rw (add-one c.field_end-e.result) at c.in_err-p-2.ensures))

pub returns : goal.returns
returns c =
    let x = c.args.id.now in
    let e = c.field_end-e.result in
    let p = c.in_ok-p-2.p in
    let q : ProcessorAt x (e + 1) p = c.in_ok-p-2.ensures in
    let s : HeadAt x (head p 0 p (ltb (e + 1) p)) =
    rw (add-one e) (sixth_proc x c.in_ok-d.d e (fifth (goal.at.returns c).After-field_end-e) (sym (named (goal.at.returns c).After-is_proc) ∙ c.if-is_proc.false) (second-dash (goal.at.returns c).Else-byte-ne45-2) p (rw (add-one e) at q)) in
    rw c.new-2.ensures s
