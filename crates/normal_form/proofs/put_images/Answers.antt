use native.Mathlib.Omega.{arith}
use mathlib.Core.Path.{refl}
use Rattle.bundle.specs.Layout.{images}
use Rattle.normal_form.proofs.EncodeLaws.{values_end, images_size, images_turn, left_all, left_next, left_none}
use Rattle.normal_form.proofs.put_images.Goals as goal

pub loop-entry-init : goal.loop-entry-init
loop-entry-init c = left_all _ _ _ (omega arith)

pub overflow_add-at : goal.overflow_add-at
overflow_add-at c =
    let l = c.loop-entry in
    omega (arith, l.invariant.within, images_size c.args.entries.now l.entry-index (omega arith))

pub loop-entry-preserved : goal.loop-entry-preserved
loop-entry-preserved c =
    let l = c.loop-entry in
    rw c.copy_at.ensures (left_next _ _ _ _ _ _ _ refl (images_turn c.args.entries.now l.entry-index (omega arith) l.invariant))

pub returns : goal.returns
unfolding images
returns c =
    let l = c.loop-entry in
    let h = rw (values_end c.args.entries.now l.entry-index (omega arith)) at l.invariant in
    left_none _ _ _ _ h
