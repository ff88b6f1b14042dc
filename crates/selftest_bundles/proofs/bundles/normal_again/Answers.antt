-- The definitions give what each case of `normal_again` expects, by computation.
use Rattle.std.proofs.Common.{refl}
use Rattle.selftest_bundles.proofs.Computing as computing
use Rattle.selftest_bundles.proofs.bundles.normal_again.Goals as goal

pub expect_normalise-requires : goal.expect_normalise-requires
unfolding computing.bundles
expect_normalise-requires c = (refl, refl)

pub expect_normalise-requires-2 : goal.expect_normalise-requires-2
unfolding computing.bundles
expect_normalise-requires-2 c = (refl, refl)
