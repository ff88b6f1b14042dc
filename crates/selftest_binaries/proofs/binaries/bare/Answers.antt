-- The definitions give what each case of `bare` expects, by computation.
use Rattle.std.proofs.Common.{refl}
use Rattle.selftest_binaries.proofs.Computing as computing
use Rattle.selftest_binaries.proofs.binaries.bare.Goals as goal

pub expect_next-requires : goal.expect_next-requires
unfolding computing.binaries
expect_next-requires c = refl

pub expect_stop-requires : goal.expect_stop-requires
unfolding computing.binaries
expect_stop-requires c = refl
