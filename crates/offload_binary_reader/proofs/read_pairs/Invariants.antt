use Rattle.std.proofs.Common.{◌≡◌, ℕ, ◌<◌, false}
use Rattle.wire.specs.Lists.{tab}
use Rattle.offload_binary.specs.Lists.{slots}
use Rattle.offload_binary.specs.Binary.{pair, bad_pair, no_pair}
use Rattle.offload_binary_reader.proofs.read_pairs.Given as goal

abbrev pub invariant-loop-i : goal.invariant-loop-i
invariant-loop-i l = record {
  read : l.pairs ≡ slots 32 no_pair (tab l.i (pair l.from l.o l.table));
  good : (k : ℕ) → k < l.i → bad_pair l.o l.table k ≡ false;
}
