-- The definitions give what each case of `written` expects, by computation.
use Rattle.std.proofs.Common.{refl}
use Rattle.selftest_bundles.proofs.Computing as computing
use Rattle.selftest_bundles.proofs.bundle_writer.written.Goals as goal

pub expect_bundle-requires : goal.expect_bundle-requires
unfolding computing.bundles
expect_bundle-requires c = (refl, refl)
