use native.Mathlib.Omega.{arith}
use mathlib.Core.Path.{sym, ap, ◌∙◌}
use Rattle.wire.specs.Refusals.{stop_by}
use Rattle.wire.proofs.FirstLaws.{first_is}
use Rattle.wire.proofs.StopLaws.{stop_at_found, stop_at_go}
use Rattle.bundle_reader.proofs.overlap.check_overlaps.Goals as goal

pub returns-then-side_by_side : goal.returns-then-side_by_side
returns-then-side_by_side c = sym (stop_at_go 21 _ _ (c.side_by_side.ensures c.if-side_by_side.true))

pub returns-then-overlaps_before : goal.returns-then-overlaps_before
returns-then-overlaps_before c =
    let l = c.loop-i in
    ap stop_by c.at.ensures
    ∙ sym (stop_at_found 21 _ _ l.i (sym (first_is _ _ l.i (omega arith) (sym c.overlaps_before.ensures ∙ c.if-overlaps_before.true) l.invariant)) (omega arith))

pub returns : goal.returns
returns c = sym (stop_at_go 21 _ _ (λ k h. c.loop-i.invariant k (omega arith)))
