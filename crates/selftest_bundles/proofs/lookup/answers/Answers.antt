-- The definitions give what each case of `answers` expects, by computation.
use Rattle.std.proofs.Common.{refl}
use Rattle.selftest_bundles.proofs.Computing as computing
use Rattle.selftest_bundles.proofs.lookup.answers.Goals as goal

pub expect_lookup-requires : goal.expect_lookup-requires
unfolding computing.lookups
expect_lookup-requires c = (refl, refl)

pub expect_lookup-requires-2 : goal.expect_lookup-requires-2
unfolding computing.lookups
expect_lookup-requires-2 c = (refl, refl)

pub expect_lookup-requires-3 : goal.expect_lookup-requires-3
unfolding computing.lookups
expect_lookup-requires-3 c = (refl, refl)
