use native.Mathlib.Omega.{arith}
use Rattle.bundle.specs.Layout.{table, packed, packed_end}
use Rattle.bundle.proofs.LayoutLaws.{length-row_bytes}
use Rattle.normal_form.specs.Code.{values}
use Rattle.normal_form.proofs.EncodeLaws.{values_end, images_size, table-length, table_turn, row_room, left_all, left_next, left_none}
use Rattle.normal_form.proofs.put_table.Goals as goal

pub loop-entry-init : goal.loop-entry-init
unfolding packed_end
loop-entry-init c =
    let a = c.args in
    (left_all _ _ _ (omega (arith, table-length a.base (values a.entries.now), c.requires.0)), c.requires.1)

pub put_row-requires : goal.put_row-requires
put_row-requires c =
    let l = c.loop-entry in
    omega (arith, row_room c.args.entries.now l.entry-index (omega arith) l.offset l.invariant.0, l.invariant.0.same_room)

pub overflow_add-at-in-loop-entry : goal.overflow_add-at-in-loop-entry
overflow_add-at-in-loop-entry c =
    let l = c.loop-entry in
    omega (arith, row_room c.args.entries.now l.entry-index (omega arith) l.offset l.invariant.0)

pub overflow_add-offset : goal.overflow_add-offset
overflow_add-offset c =
    let l = c.loop-entry in
    omega (arith, l.invariant.1, images_size c.args.entries.now l.entry-index (omega arith))

pub loop-entry-preserved : goal.loop-entry-preserved
loop-entry-preserved c =
    let l = c.loop-entry in
    let es = c.args.entries.now in (
      rw c.put_row.ensures (left_next _ _ _ _ _ _ _ (length-row_bytes _) (table_turn es l.entry-index (omega arith) l.offset l.invariant.0)),
      omega (arith, l.invariant.1, images_size es l.entry-index (omega arith)),
    )

pub returns : goal.returns
unfolding table packed
returns c =
    let l = c.loop-entry in
    let h = rw (values_end c.args.entries.now l.entry-index (omega arith)) at l.invariant in
    left_none _ _ _ _ h.0
