-- The definitions give what each case of `parts` expects, by computation.
use Rattle.std.proofs.Common.{refl}
use Rattle.selftest_bundles.proofs.Computing as computing
use Rattle.selftest_bundles.proofs.EachCase.{answered}
use Rattle.selftest_bundles.proofs.each.parts.Goals as goal

pub expect_each-requires : goal.expect_each-requires
unfolding computing.each
expect_each-requires c = (answered _ _ _ _ _ refl, refl)
