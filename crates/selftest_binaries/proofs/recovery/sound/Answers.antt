-- The definitions give what each case of `sound` expects, by computation.
use Rattle.std.proofs.Common.{refl}
use Rattle.selftest_binaries.proofs.Computing as computing
use Rattle.selftest_binaries.proofs.recovery.sound.Goals as goal

pub expect_recovered-requires : goal.expect_recovered-requires
unfolding computing.recovered
expect_recovered-requires c = (refl, refl, refl)
