use Rattle.offload_binary_recovery.specs.Code.{Skipping}
use Rattle.offload_binary_recovery.proofs.put_spans.Given as goal

abbrev pub invariant-loop-part : goal.invariant-loop-part
invariant-loop-part l = Skipping l.s l.room l.initial.spans l.part-index l.cursor l.k l.spans
