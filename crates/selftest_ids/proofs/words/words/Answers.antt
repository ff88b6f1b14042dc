-- The definitions give what each case of `words` expects, by computation.
use Rattle.std.proofs.Common.{refl}
use Rattle.selftest_ids.proofs.Computing as computing
use Rattle.selftest_ids.proofs.words.words.Goals as goal

pub expect_words-requires : goal.expect_words-requires
unfolding computing.words
expect_words-requires c = (refl, refl, refl)

pub expect_words-requires-2 : goal.expect_words-requires-2
unfolding computing.words
expect_words-requires-2 c = (refl, refl, refl)

pub expect_words-requires-3 : goal.expect_words-requires-3
unfolding computing.words
expect_words-requires-3 c = (refl, refl, refl)

pub expect_words-requires-4 : goal.expect_words-requires-4
unfolding computing.words
expect_words-requires-4 c = (refl, refl, refl)
