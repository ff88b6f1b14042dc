-- The definitions give what each case of `read_on` expects, by computation.
use Rattle.std.proofs.Common.{refl}
use Rattle.selftest_binaries.proofs.Computing as computing
use Rattle.selftest_binaries.proofs.binaries.read_on.Goals as goal

pub expect_next-requires : goal.expect_next-requires
unfolding computing.binaries
expect_next-requires c = refl

pub expect_next-requires-2 : goal.expect_next-requires-2
unfolding computing.binaries
expect_next-requires-2 c = refl
