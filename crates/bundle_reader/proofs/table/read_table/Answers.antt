use native.Mathlib.Omega.{arith}
use Prim.Native.Nat.{◌≤◌}
use mathlib.Core.Path.{◌≡◌, refl, sym, ap, ap₂, ◌∙◌}
use mathlib.Core.Bool.{true}
use borrow.Author.Count.{below_more, below_none}
use Rattle.std.proofs.lemmas.Result.{err_from_is_err_and}
use Rattle.wire.specs.Refusals.{stop_by}
use Rattle.wire.proofs.FirstLaws.{first_is}
use Rattle.wire.proofs.StopLaws.{stop_at_found, stop_at_go}
use Rattle.bundle.specs.Table.{count, row_start, table_end}
use Rattle.bundle.specs.Check.{bad_row, table_stop}
use Rattle.bundle.proofs.AcceptLaws.{counted, sized}
use Rattle.bundle_reader.specs.Examined.{row_held}
use Rattle.bundle_reader.proofs.RefusalLaws.{refuses, passes}
use Rattle.bundle_reader.proofs.FilledLaws.{filled-none, filled_more}
use Rattle.bundle_reader.proofs.RowLaws.{fine, row_inside, row_is, row_next}
use Rattle.bundle_reader.proofs.table.read_table.Goals as goal

pub returns-in_err-count-clause-stop : goal.returns-in_err-count-clause-stop
returns-in_err-count-clause-stop c =
    let p = err_from_is_err_and c.from_residual.result c.from_residual.ensures.1 in
    rw (p.1, p.2) (refuses _ _ _ c.in_err-count.ensures.stop)

pub loop-i-init : goal.loop-i-init
unfolding row_start
loop-i-init c = (refl, (counted _ (ap (λ t. t.number) (sym c.in_ok-count.ensures.stop))).0, below_none _, filled-none _ _)

pub returns-then-bad_row-clause-stop : goal.returns-then-bad_row-clause-stop
unfolding table_stop
returns-then-bad_row-clause-stop c =
    let l = c.loop-i in
    let s = c.args.s.now in
    let bad : bad_row s (row_start s l.i) ≡ true = ap (bad_row s) (sym l.invariant.0) ∙ sym c.bad_row.ensures ∙ c.if-bad_row.true in
    let n = c.in_ok-count.ensures.count in
    ap stop_by c.at.ensures
    ∙ passes _ _ _ c.in_ok-count.ensures.stop (sym (stop_at_found 4 (count s) _ l.i (sym (first_is (count s) _ l.i (omega (arith, n)) bad l.invariant.2)) (omega (arith, n))))

pub row_at-row-requires : goal.row_at-row-requires
row_at-row-requires c = fine _ _ _ c.bad_row.ensures c.if-bad_row.false

pub offset_bounds-rows-i : goal.offset_bounds-rows-i
offset_bounds-rows-i c =
    let few = (counted _ (ap (λ t. t.number) (sym c.in_ok-count.ensures.stop))).1 in
    omega (arith, few, c.in_ok-count.ensures.count)

pub bounds-rows-i : goal.bounds-rows-i
bounds-rows-i c =
    let few : count c.args.s.now ≤ 64 = (counted _ (ap (λ t. t.number) (sym c.in_ok-count.ensures.stop))).1 in
    omega (arith, c.requires few, c.in_ok-count.ensures.count)

pub overflow_add-end : goal.overflow_add-end
overflow_add-end c =
    let short = sized _ (ap (λ t. t.number) (sym c.in_ok-count.ensures.stop)) in
    record { fits = omega (arith, short, row_inside _ c.loop-i.end _ c.row_at-row.ensures (fine _ _ _ c.bad_row.ensures c.if-bad_row.false)) }

pub loop-i-preserved : goal.loop-i-preserved
loop-i-preserved c =
    let l = c.loop-i in
    let s = c.args.s.now in
    let r = c.row_at-row in (
      row_next s l.i l.end l.invariant.0 r.result r.ensures,
      row_inside s l.end r.result r.ensures (fine _ _ _ c.bad_row.ensures c.if-bad_row.false),
      below_more _ l.i l.invariant.2 (ap (bad_row s) (sym l.invariant.0) ∙ sym c.bad_row.ensures ∙ c.if-bad_row.false),
      filled_more _ l.i (row_held s) _ _ l.invariant.3 (row_is s l.i l.end l.invariant.0 r.result r.ensures),
    )

pub returns-clause-stop : goal.returns-clause-stop
unfolding table_stop
returns-clause-stop c =
    let n = c.in_ok-count.ensures.count in
    passes _ _ _ c.in_ok-count.ensures.stop (sym (stop_at_go 4 _ _ (λ k h. c.loop-i.invariant.2 k (omega (arith, n)))))

pub returns-clause-table : goal.returns-clause-table
unfolding table_end
returns-clause-table c =
    let n = c.in_ok-count.ensures.count in
    let e : c.loop-i.i ≡ count c.args.s.now = omega (arith, n) in
    ap₂ (λ x y. record { count = x; end = y }) n (c.loop-i.invariant.0 ∙ ap (row_start _) e)
