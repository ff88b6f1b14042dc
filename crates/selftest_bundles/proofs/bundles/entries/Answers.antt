-- The definitions give what each case of `entries` expects, by computation.
use Rattle.std.proofs.Common.{refl}
use Rattle.selftest_bundles.proofs.Computing as computing
use Rattle.selftest_bundles.proofs.bundles.entries.Goals as goal

pub expect_entry-requires : goal.expect_entry-requires
unfolding computing.bundles
expect_entry-requires c = refl

pub expect_entry-requires-2 : goal.expect_entry-requires-2
unfolding computing.bundles
expect_entry-requires-2 c = refl

pub expect_entry-requires-3 : goal.expect_entry-requires-3
unfolding computing.bundles
expect_entry-requires-3 c = refl
