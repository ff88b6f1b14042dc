-- The definitions give what each case of `kinds_picked` expects, by computation.
use Rattle.std.proofs.Common.{refl}
use Rattle.selftest_bundles.proofs.Computing as computing
use Rattle.selftest_bundles.proofs.bundles.kinds_picked.Goals as goal

pub expect_pick-requires : goal.expect_pick-requires
unfolding computing.bundles
expect_pick-requires c = refl

pub expect_pick-requires-2 : goal.expect_pick-requires-2
unfolding computing.bundles
expect_pick-requires-2 c = refl

pub expect_pick-requires-3 : goal.expect_pick-requires-3
unfolding computing.bundles
expect_pick-requires-3 c = refl
