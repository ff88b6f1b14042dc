-- The definitions give what each case of `seconds` expects, by computation.
use Rattle.std.proofs.Common.{refl}
use Rattle.selftest_binaries.proofs.Computing as computing
use Rattle.selftest_binaries.proofs.binaries.seconds.Goals as goal

pub expect_second-requires : goal.expect_second-requires
unfolding computing.binaries
expect_second-requires c = (refl, refl, refl, refl)

pub expect_second-requires-2 : goal.expect_second-requires-2
unfolding computing.binaries
expect_second-requires-2 c = (refl, refl, refl, refl)

pub expect_second-requires-3 : goal.expect_second-requires-3
unfolding computing.binaries
expect_second-requires-3 c = (refl, refl, refl, refl)
