use mathlib.Core.Path.{◌≡◌}
use lib.ListN.{length, take}
use Rattle.wire.specs.Bytes.{overwrite}
use Rattle.offload_binary.specs.Reader.{end_to_end}
use Rattle.offload_binary.specs.Recovery.{taken}
use Rattle.offload_binary_recovery.proofs.put_copies.Given as goal

abbrev pub invariant-loop-part : goal.invariant-loop-part
invariant-loop-part l = (l.at ≡ length (end_to_end l.s (take l.part-index (taken l.s)))) × (l.out ≡ overwrite l.initial.out 0 (end_to_end l.s (take l.part-index (taken l.s))))
