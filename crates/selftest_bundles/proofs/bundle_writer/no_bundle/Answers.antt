-- The definitions give what each case of `no_bundle` expects, by computation.
use Rattle.std.proofs.Common.{refl}
use Rattle.selftest_bundles.proofs.Computing as computing
use Rattle.selftest_bundles.proofs.bundle_writer.no_bundle.Goals as goal

pub expect_bundle-requires : goal.expect_bundle-requires
unfolding computing.bundles
expect_bundle-requires c = (refl, refl)

pub expect_bundle-requires-2 : goal.expect_bundle-requires-2
unfolding computing.bundles
expect_bundle-requires-2 c = (refl, refl)
