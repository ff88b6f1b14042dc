-- The definitions give what each case of `sixteen_names` expects, by computation.
use Rattle.std.proofs.Common.{refl}
use Rattle.selftest_bundles.proofs.Computing as computing
use Rattle.selftest_bundles.proofs.EachCase.{answered}
use Rattle.selftest_bundles.proofs.each.sixteen_names.Goals as goal

pub expect_each-requires : goal.expect_each-requires
unfolding computing.each
expect_each-requires c = (answered _ _ _ _ _ refl, refl)

pub expect_each-requires-2 : goal.expect_each-requires-2
unfolding computing.each
expect_each-requires-2 c = (answered _ _ _ _ _ refl, refl)

pub expect_each-requires-3 : goal.expect_each-requires-3
unfolding computing.each
expect_each-requires-3 c = (answered _ _ _ _ _ refl, refl)
