-- The definitions give what each case of `picks` expects, by computation.
use Rattle.std.proofs.Common.{refl}
use Rattle.selftest_bundles.proofs.Computing as computing
use Rattle.selftest_bundles.proofs.bundles.picks.Goals as goal

pub expect_pick-requires : goal.expect_pick-requires
unfolding computing.bundles
expect_pick-requires c = refl

pub expect_pick-requires-2 : goal.expect_pick-requires-2
unfolding computing.bundles
expect_pick-requires-2 c = refl
