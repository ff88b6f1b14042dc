use Rattle.std.proofs.Common.{◌≡◌, ◌+◌, take, length}
use Rattle.offload_binary.specs.Contents.{string_bytes}
use Rattle.offload_binary_writer.specs.Code.{strings, laid}
use Rattle.offload_binary_writer.proofs.write_strings.Given as goal

abbrev pub invariant-loop-i : goal.invariant-loop-i
invariant-loop-i l = record {
  at_is : l.at ≡ l.first + length (string_bytes (strings l.buf (take l.i l.pairs)));
  out_is : l.out ≡ laid l.first (strings l.buf (take l.i l.pairs)) l.initial.out;
  same : length l.out ≡ length l.initial.out;
}
