-- The second of a reader's answers is the definition's, by the reader after the first.
use Rattle.std.proofs.Common.{rules}
use Rattle.offload_binary.specs.Reader.{cursor_after, answer}
use Rattle.offload_binaries.specs.Held.{answered, moved}
use Rattle.selftest_binaries.proofs.binaries.second_answer.Goals as goal

pub returns : goal.returns
unfolding answer cursor_after answered moved
returns c = search rules
