-- The definitions give what each case of `no_copies` expects, by computation.
use Rattle.std.proofs.Common.{refl}
use Rattle.selftest_ids.proofs.Computing as computing
use Rattle.selftest_ids.proofs.words.no_copies.Goals as goal

pub expect_copy-requires : goal.expect_copy-requires
unfolding computing.words
expect_copy-requires c = refl

pub expect_copy-requires-2 : goal.expect_copy-requires-2
unfolding computing.words
expect_copy-requires-2 c = refl

pub expect_copy-requires-3 : goal.expect_copy-requires-3
unfolding computing.words
expect_copy-requires-3 c = refl
