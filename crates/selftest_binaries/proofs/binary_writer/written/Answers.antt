-- The definitions give what each case of `written` expects, by computation.
use Rattle.std.proofs.Common.{refl}
use Rattle.selftest_binaries.proofs.Computing as computing
use Rattle.selftest_binaries.proofs.binary_writer.written.Goals as goal

pub expect_pairs-requires : goal.expect_pairs-requires
unfolding computing.binaries
expect_pairs-requires c = refl
