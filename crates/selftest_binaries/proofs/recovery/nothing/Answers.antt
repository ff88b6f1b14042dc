-- The definitions give what each case of `nothing` expects, by computation.
use Rattle.std.proofs.Common.{refl}
use Rattle.selftest_binaries.proofs.Computing as computing
use Rattle.selftest_binaries.proofs.recovery.nothing.Goals as goal

pub expect_recovered-requires : goal.expect_recovered-requires
unfolding computing.recovered
expect_recovered-requires c = (refl, refl, refl)

pub expect_recovered-requires-2 : goal.expect_recovered-requires-2
unfolding computing.recovered
expect_recovered-requires-2 c = (refl, refl, refl)
