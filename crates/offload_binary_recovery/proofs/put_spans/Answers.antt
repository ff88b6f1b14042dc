use native.Mathlib.Omega.{arith}
use mathlib.Core.Path.{◌∙◌}
use Rattle.wire.proofs.RowLaws.{added_le, added_length}
use Rattle.offload_binary_recovery.proofs.WriteLaws.{skip_first, skip_inside, skip_next, skip_end}
use Rattle.offload_binary_recovery.proofs.put_spans.Goals as goal

pub loop-part-init : goal.loop-part-init
loop-part-init c = skip_first _ _ c.requires.2 _ _

pub put_gap-k-requires : goal.put_gap-k-requires
put_gap-k-requires c = let l = c.loop-part in let p = c.requires in (added_le _ _ _ _ _ _ l.invariant.added, p.0, omega (arith, added_length _ _ _ _ _ _ l.invariant.added, p.1))

pub overflow_add-cursor : goal.overflow_add-cursor
overflow_add-cursor c = let l = c.loop-part in let p = c.requires in omega (arith, skip_inside _ _ p.2 _ _ p.1 _ _ _ _ l.invariant (omega arith))

pub loop-part-preserved : goal.loop-part-preserved
loop-part-preserved c = let l = c.loop-part in let p = c.requires in skip_next _ _ p.2 _ _ p.1 _ _ _ _ l.invariant (omega arith) _ _ c.put_gap-k.ensures

pub put_gap-requires : goal.put_gap-requires
put_gap-requires c = let l = c.loop-part in let p = c.requires in (added_le _ _ _ _ _ _ l.invariant.added, p.0, omega (arith, added_length _ _ _ _ _ _ l.invariant.added, p.1))

pub shape_of-spans : goal.shape_of-spans
shape_of-spans c = added_length _ _ _ _ _ _ c.put_gap.ensures ∙ added_length _ _ _ _ _ _ c.loop-part.invariant.added

pub returns : goal.returns
returns c = let l = c.loop-part in let p = c.requires in skip_end _ _ p.2 _ _ p.1 _ _ _ _ l.invariant (omega arith) _ _ c.put_gap.ensures
