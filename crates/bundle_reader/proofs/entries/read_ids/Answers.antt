use native.Mathlib.Omega.{arith}
use mathlib.Core.Path.{◌≡◌, sym, ap, ◌∙◌}
use mathlib.Core.Bool.{true}
use borrow.Author.Count.{below_more, below_none}
use lib.ListN.{length, set}
use Rattle.std.proofs.lemmas.List.{set-get_or}
use Rattle.std.specs.Option.{option_or}
use Rattle.wire.specs.Bytes.{empty}
use Rattle.wire.specs.First.{first}
use Rattle.wire.specs.Refusals.{stop_by}
use borrow.Author.Tests.{not-true}
use Rattle.wire.proofs.Bools.{not_no}
use Rattle.wire.proofs.FirstLaws.{first_is, first-none}
use Rattle.wire.proofs.StopLaws.{stop_at_found, stop_at_go}
use Rattle.entry_id.specs.Rules.{rules_of}
use Rattle.bundle.specs.Check.{bad_id, outside}
use Rattle.bundle.specs.Records.{record_at, rows_of}
use Rattle.bundle_reader.specs.Examined.{form, filled}
use Rattle.bundle_reader.specs.Slots.{first_found}
use Rattle.bundle_reader.proofs.FilledLaws.{filled-none, filled_more}
use Rattle.bundle_reader.proofs.IdLaws.{taken_new, taken_old}
use Rattle.bundle_reader.proofs.RefusalLaws.{found_none, found_more}
use Rattle.bundle_reader.proofs.RowLaws.{part_id}
use Rattle.bundle_reader.proofs.entries.read_ids.Goals as goal

pub loop-i-init : goal.loop-i-init
loop-i-init c = (filled-none _ _, below_none _, found_none _)

pub overflow_add-start : goal.overflow_add-start
unfolding record_at
overflow_add-start c = record { fits = omega (arith, c.requires.1 c.loop-i.i (omega arith)) }

pub slice_bounds-read-end : goal.slice_bounds-read-end
unfolding record_at
slice_bounds-read-end c = c.requires.1 c.loop-i.i (omega arith)

pub returns-then-not-read-clause-stop : goal.returns-then-not-read-clause-stop
unfolding bad_id rows_of record_at
returns-then-not-read-clause-stop c =
    let l = c.loop-i in
    let R = rules_of c.args.reading in
    let s = c.args.s.now in
    let rows = c.args.rows.now in
    let bad : bad_id R (rows_of s rows l.i) ≡ true =
    ap (λ x. empty (R.canon x)) (sym (part_id s (record_at rows l.i))) ∙ not_no _ (sym c.read.ensures.value ∙ c.if-not-read.true) in
    ap stop_by c.at.ensures ∙ sym (stop_at_found 5 _ _ l.i (sym (first_is _ _ l.i (omega arith) bad l.invariant.1)) (omega arith))

pub returns-then-not-read-clause-ids_after : goal.returns-then-not-read-clause-ids_after
unfolding bad_id rows_of record_at
returns-then-not-read-clause-ids_after c =
    let l = c.loop-i in
    let R = rules_of c.args.reading in
    let s = c.args.s.now in
    let rows = c.args.rows.now in
    let bad : bad_id R (rows_of s rows l.i) ≡ true =
    ap (λ x. empty (R.canon x)) (sym (part_id s (record_at rows l.i))) ∙ not_no _ (sym c.read.ensures.value ∙ c.if-not-read.true) in
    let e : l.i ≡ first (length rows) (λ k. bad_id R (rows_of s rows k)) = sym (first_is _ _ l.i (omega arith) bad l.invariant.1) in
    ap (set l.ids l.i) (c.read.ensures.self_after ∙ taken_old _ _ (not_no _ (sym c.read.ensures.value ∙ c.if-not-read.true)))
    ∙ set-get_or l.ids l.i _
    ∙ l.invariant.0
    ∙ ap (λ m. filled c.args.ids.now m (form R (rows_of s rows))) e

pub loop-i-preserved : goal.loop-i-preserved
unfolding bad_id form rows_of record_at
loop-i-preserved c =
    let l = c.loop-i in
    let R = rules_of c.args.reading in
    let s = c.args.s.now in
    let rows = c.args.rows.now in
    let id = part_id s (record_at rows l.i) in (
      filled_more _ l.i _ l.ids _ l.invariant.0 (c.read.ensures.self_after ∙ taken_new _ _ (not-true _ (sym c.read.ensures.value ∙ c.if-not-read.false)) ∙ ap R.canon id),
      below_more _ l.i l.invariant.1 (ap (λ x. empty (R.canon x)) (sym id) ∙ not-true _ (sym c.read.ensures.value ∙ c.if-not-read.false)),
      c.or-outside.ensures ∙ ap (option_or l.outside) c.then_some.ensures ∙ found_more l.i _ l.outside _ l.invariant.2 c.outside_row.ensures,
    )

pub returns-clause-stop : goal.returns-clause-stop
returns-clause-stop c = sym (stop_at_go 5 _ _ (λ k h. c.loop-i.invariant.1 k (omega arith)))

pub returns-clause-outside : goal.returns-clause-outside
returns-clause-outside c = let n : c.loop-i.i ≡ length c.args.rows.now = omega arith in c.loop-i.invariant.2 ∙ ap (λ m. first_found m (λ k. outside c.args.end c.args.len (record_at c.args.rows.now k).image_start (record_at c.args.rows.now k).image_len)) n

pub returns-clause-ids_after : goal.returns-clause-ids_after
returns-clause-ids_after c =
    let l = c.loop-i in
    let R = rules_of c.args.reading in
    let rows = rows_of c.args.s.now c.args.rows.now in
    let n = length c.args.rows.now in
    let e : l.i ≡ first n (λ k. bad_id R (rows k)) = (let z : l.i ≡ n = omega arith in z ∙ sym (first-none n _ (λ k h. l.invariant.1 k (omega arith)))) in
    l.invariant.0 ∙ ap (λ m. filled c.args.ids.now m (form R rows)) e
