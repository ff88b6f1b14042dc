use Rattle.std.proofs.Common.{◌≡◌, ℕ, ◌<◌, false}
use Rattle.wire.specs.Bytes.{same}
use Rattle.wire.specs.Stop.{earlier}
use Rattle.offload_binary.specs.Binary.{key_in}
use Rattle.offload_binary_parts.proofs.has_equal_keys.Given as goal

abbrev pub invariant-loop-i : goal.invariant-loop-i
invariant-loop-i l = (k : ℕ) → k < l.i → earlier same (key_in l.s l.pairs) k ≡ false
