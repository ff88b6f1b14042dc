-- The definitions give what each case of `names_normal` expects, by computation.
use Rattle.std.proofs.Common.{refl}
use Rattle.selftest_bundles.proofs.Computing as computing
use Rattle.selftest_bundles.proofs.bundles.names_normal.Goals as goal

pub expect_normalise_by-requires : goal.expect_normalise_by-requires
unfolding computing.bundles
expect_normalise_by-requires c = (refl, refl)

pub expect_normalise-requires : goal.expect_normalise-requires
unfolding computing.bundles
expect_normalise-requires c = (refl, refl)

pub expect_normalise_by-requires-2 : goal.expect_normalise_by-requires-2
unfolding computing.bundles
expect_normalise_by-requires-2 c = (refl, refl)
