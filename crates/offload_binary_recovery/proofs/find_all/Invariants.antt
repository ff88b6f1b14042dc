use Rattle.offload_binary_recovery.specs.Code.{Finding}
use Rattle.offload_binary_recovery.proofs.find_all.Given as goal

abbrev pub invariant-loop-n : goal.invariant-loop-n
invariant-loop-n l = Finding l.s l.n l.cursor l.total l.list
