use native.Mathlib.Omega.{arith}
use mathlib.Core.Path.{refl}
use borrow.Author.Count.{below_more}
use Rattle.bundle.specs.Records.{record_at, row_of}
use Rattle.bundle_reader.specs.Slots.{images, Within}
use Rattle.wire.specs.Limit.{limit}
use Rattle.bundle_reader.proofs.OverlapLaws.{apart_beside, within_more}
use Rattle.bundle_reader.proofs.overlap.side_by_side.Goals as goal

pub overflow_add-end : goal.overflow_add-end
unfolding record_at
overflow_add-end c =
    let h : Within limit (record_at c.args.rows.now c.loop-row.row-index) = c.requires c.loop-row.row-index (omega arith) in
    record { fits = omega (arith, h) }

pub loop-row-preserved : goal.loop-row-preserved
unfolding record_at row_of
loop-row-preserved c =
    let l = c.loop-row in
    let rows = images c.args.rows.now in (
      below_more _ l.row-index l.invariant.0 (apart_beside rows l.row-index l.low l.high l.invariant.1 _ _ refl refl c.if-start-high.false),
      within_more rows l.row-index l.low l.high l.invariant.1 _ _ refl refl _ _ (omega (arith, c.min-low.ensures), omega (arith, c.min-low.ensures)) (omega (arith, c.max-high.ensures), omega (arith, c.max-high.ensures)),
    )
