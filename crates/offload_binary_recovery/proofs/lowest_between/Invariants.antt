use Prim.Native.Nat.{◌-◌, ◌≤◌}
use Rattle.offload_binary_recovery.specs.Code.{NonePasses}
use Rattle.offload_binary_recovery.proofs.lowest_between.Given as goal

abbrev pub invariant-loop-q : goal.invariant-loop-q
invariant-loop-q l = (l.from ≤ l.p) × (l.p ≤ l.to) × NonePasses l.s l.from l.p

abbrev pub decreases-loop-q : goal.decreases-loop-q
decreases-loop-q l = l.to - l.p
