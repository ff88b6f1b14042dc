use Prim.Native.Nat.{◌-◌, ◌≤◌}
use lib.ListN.{length}
use Rattle.offload_binary_recovery.specs.Code.{NonePasses}
use Rattle.offload_binary_recovery.proofs.lowest.Given as goal

abbrev pub invariant-loop-p : goal.invariant-loop-p
invariant-loop-p l = (l.cursor ≤ l.p) × (l.p ≤ length l.s) × NonePasses l.s l.cursor l.p

abbrev pub decreases-loop-p : goal.decreases-loop-p
decreases-loop-p l = length l.s - l.p
