-- The definitions give what each case of `apart` expects, by computation.
use Rattle.std.proofs.Common.{refl}
use Rattle.selftest_bundles.proofs.Computing as computing
use Rattle.selftest_bundles.proofs.bundles.apart.Goals as goal

pub expect_check-requires : goal.expect_check-requires
unfolding computing.bundles
expect_check-requires c = refl

pub expect_check-requires-2 : goal.expect_check-requires-2
unfolding computing.bundles
expect_check-requires-2 c = refl

pub expect_check-requires-3 : goal.expect_check-requires-3
unfolding computing.bundles
expect_check-requires-3 c = refl

pub expect_check-requires-4 : goal.expect_check-requires-4
unfolding computing.bundles
expect_check-requires-4 c = refl
