use native.Mathlib.Omega.{arith}
use mathlib.Core.Path.{ap, ◌∙◌}
use lib.ListN.{length}
use Rattle.wire.proofs.OverwriteLaws.{length-overwrite}
use Rattle.offload_binary_recovery.proofs.WriteLaws.{copy_size, copy_fits, copy_next, copy_all, copy_none, copy_zero}
use Rattle.offload_binary_recovery.proofs.put_copies.Goals as goal

pub loop-part-init : goal.loop-part-init
loop-part-init c = let p = c.requires in (copy_zero _ _ p.0, copy_none _ _ p.0 _)

pub overflow_add-at : goal.overflow_add-at
overflow_add-at c = let l = c.loop-part in let p = c.requires in omega (arith, copy_size _ _ p.0 l.part-index (omega arith) l.at l.invariant.0, copy_fits _ _ p.0 l.part-index (omega arith) _ p.1)

pub loop-part-preserved : goal.loop-part-preserved
loop-part-preserved c =
    let l = c.loop-part in
    let p = c.requires in
    (copy_size _ _ p.0 l.part-index (omega arith) l.at l.invariant.0, copy_next _ _ p.0 l.part-index (omega arith) _ l.out _ l.at _ p.1 l.invariant.0 l.invariant.1 c.bytes_at.ensures c.copy_at.ensures)

pub shape_of-out : goal.shape_of-out
shape_of-out c = ap length c.loop-part.invariant.1 ∙ length-overwrite _ 0 _

pub returns : goal.returns
returns c = let l = c.loop-part in copy_all _ _ c.requires.0 l.part-index _ _ (omega arith) l.invariant.1
