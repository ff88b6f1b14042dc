use Rattle.std.proofs.Common.{◌≡◌, ◌*◌, drop, length}
use Rattle.wire.specs.Bytes.{overwrite}
use Rattle.offload_binary_writer.specs.Code.{word_bytes}
use Rattle.offload_binary_writer.proofs.put_words.Given as goal

-- the words from i on, behind what is written, are all the words
abbrev pub invariant-loop-i : goal.invariant-loop-i
invariant-loop-i l = record {
  rest : overwrite l.out (8 * l.i) (word_bytes (drop l.i l.words)) ≡ overwrite l.initial.out 0 (word_bytes l.words);
  same : length l.out ≡ length l.initial.out;
}
