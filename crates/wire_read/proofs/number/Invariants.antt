use Rattle.std.proofs.Common.{◌≡◌}
use Rattle.wire.specs.Word.{word}
use Rattle.wire_read.proofs.number.Given as goal

abbrev pub invariant-loop-k : goal.invariant-loop-k
invariant-loop-k l = l.number ≡ word l.k l.bytes 0
