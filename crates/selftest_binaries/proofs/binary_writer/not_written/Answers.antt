-- The definitions give what each case of `not_written` expects, by computation.
use Rattle.std.proofs.Common.{refl}
use Rattle.selftest_binaries.proofs.Computing as computing
use Rattle.selftest_binaries.proofs.binary_writer.not_written.Goals as goal

pub expect_pairs-requires : goal.expect_pairs-requires
unfolding computing.binaries
expect_pairs-requires c = refl

pub expect_pairs-requires-2 : goal.expect_pairs-requires-2
unfolding computing.binaries
expect_pairs-requires-2 c = refl
