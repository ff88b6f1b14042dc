-- The definitions give what each case of `puts` expects, by computation.
use Rattle.std.proofs.Common.{refl}
use Rattle.selftest_ids.proofs.Computing as computing
use Rattle.selftest_ids.proofs.words.puts.Goals as goal

pub expect_put-requires : goal.expect_put-requires
unfolding computing.words
expect_put-requires c = refl

pub expect_put-requires-2 : goal.expect_put-requires-2
unfolding computing.words
expect_put-requires-2 c = refl

pub expect_put-requires-3 : goal.expect_put-requires-3
unfolding computing.words
expect_put-requires-3 c = refl
