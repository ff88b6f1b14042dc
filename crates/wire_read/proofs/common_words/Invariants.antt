use Rattle.std.proofs.Common.{◌≤◌, ◌*◌}
use Rattle.wire.specs.Bytes.{common}
use Rattle.wire_read.proofs.common_words.Given as goal

abbrev pub invariant-loop-k : goal.invariant-loop-k
invariant-loop-k l = 8 * l.k ≤ common l.a l.b
