-- The definitions give what each case of `end_comparisons` expects, by computation.
use Rattle.std.proofs.Common.{refl}
use Rattle.selftest_ids.proofs.Computing as computing
use Rattle.selftest_ids.proofs.words.end_comparisons.Goals as goal

pub expect_compared-requires : goal.expect_compared-requires
unfolding computing.words
expect_compared-requires c = (refl, refl, refl)

pub expect_compared-requires-2 : goal.expect_compared-requires-2
unfolding computing.words
expect_compared-requires-2 c = (refl, refl, refl)

pub expect_compared-requires-3 : goal.expect_compared-requires-3
unfolding computing.words
expect_compared-requires-3 c = (refl, refl, refl)

pub expect_compared-requires-4 : goal.expect_compared-requires-4
unfolding computing.words
expect_compared-requires-4 c = (refl, refl, refl)
