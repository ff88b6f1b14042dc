use Rattle.std.proofs.Common.{◌≡◌, ◌*◌, ◌≤◌, take}
use Rattle.std.specs.List.{sum_by}
use Rattle.offload_binary_writer.specs.Code.{pair_len}
use Rattle.offload_binary_writer.proofs.strings_len.Given as goal

abbrev pub invariant-loop-pair : goal.invariant-loop-pair
invariant-loop-pair l = record {
  sum : l.len ≡ sum_by pair_len (take l.pair-index l.pairs);
  bound : l.len ≤ 514 * l.pair-index;
}
