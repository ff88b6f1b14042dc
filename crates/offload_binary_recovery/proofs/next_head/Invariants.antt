use Rattle.offload_binary_recovery.specs.Code.{NonePasses}
use Rattle.offload_binary_recovery.proofs.next_head.Given as goal

abbrev pub invariant-loop-p : goal.invariant-loop-p
invariant-loop-p l = NonePasses l.s l.from l.p
