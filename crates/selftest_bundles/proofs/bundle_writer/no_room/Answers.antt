-- The definitions give what each case of `no_room` expects, by computation.
use Rattle.std.proofs.Common.{refl}
use Rattle.selftest_bundles.proofs.Computing as computing
use Rattle.selftest_bundles.proofs.bundle_writer.no_room.Goals as goal

pub expect_bundle-requires : goal.expect_bundle-requires
unfolding computing.bundles
expect_bundle-requires c = (refl, refl)
