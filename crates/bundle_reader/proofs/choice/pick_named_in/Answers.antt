use native.Mathlib.Omega.{arith}
use mathlib.Core.Path.{ap, ◌∙◌}
use lib.ListN.{take}
use Rattle.std.proofs.lemmas.Result.{err_from_is_err_and}
use Rattle.bundle.specs.Results.{picked_of}
use Rattle.bundle_reader.specs.Slots.{choice, image_of}
use Rattle.bundle_reader.proofs.CheckLaws.{check_few}
use Rattle.bundle_reader.proofs.PickLaws.{picked-stop, kept}
use Rattle.bundle_reader.proofs.choice.pick_named_in.Goals as goal

pub returns-in_err-n : goal.returns-in_err-n
returns-in_err-n c = λ device q.
    let p = err_from_is_err_and c.from_residual.result c.from_residual.ensures.1 in
    rw (p.1, p.2) (picked-stop _ _ device _ c.in_err-n.ensures.stop)

pub slice_bounds-pick_from-end : goal.slice_bounds-pick_from-end
slice_bounds-pick_from-end c = (let k = c.in_ok-n.ensures in kept _ _ k.stop _ k.count _ _ _ _ (c.requires (check_few _ _ k.stop)) k.rows_after k.ids_after).rows_room

pub slice_bounds-pick_from-end-2 : goal.slice_bounds-pick_from-end-2
slice_bounds-pick_from-end-2 c = (let k = c.in_ok-n.ensures in kept _ _ k.stop _ k.count _ _ _ _ (c.requires (check_few _ _ k.stop)) k.rows_after k.ids_after).rows_are

pub slice_bounds-pick_from-end-3 : goal.slice_bounds-pick_from-end-3
slice_bounds-pick_from-end-3 c = (let k = c.in_ok-n.ensures in kept _ _ k.stop _ k.count _ _ _ _ (c.requires (check_few _ _ k.stop)) k.rows_after k.ids_after).ids_room

pub slice_bounds-pick_from-end-4 : goal.slice_bounds-pick_from-end-4
slice_bounds-pick_from-end-4 c = (let k = c.in_ok-n.ensures in kept _ _ k.stop _ k.count _ _ _ _ (c.requires (check_few _ _ k.stop)) k.rows_after k.ids_after).ids_are

pub pick_from-requires : goal.pick_from-requires
pick_from-requires c =
    let h = (let k = c.in_ok-n.ensures in kept _ _ k.stop _ k.count _ _ _ _ (c.requires (check_few _ _ k.stop)) k.rows_after k.ids_after) in
    omega (arith, h.rows_are, h.ids_are)

pub returns : goal.returns
returns c = λ device q.
    let n = c.in_ok-n.n in
    ap picked_of (c.pick_from.ensures ∙ ap (λ name. image_of (take n c.check_in.new.rows) (choice (take n c.check_in.new.ids) name)) q)
    ∙ (let k = c.in_ok-n.ensures in kept _ _ k.stop _ k.count _ _ _ _ (c.requires (check_few _ _ k.stop)) k.rows_after k.ids_after).picked device
