-- The definitions give what each case of `more_standings` expects, by computation.
use Rattle.std.proofs.Common.{refl}
use Rattle.selftest_ids.proofs.Computing as computing
use Rattle.selftest_ids.proofs.ids.more_standings.Goals as goal

pub expect_standing-requires : goal.expect_standing-requires
unfolding computing.ids
expect_standing-requires c = (refl, refl, refl)

pub expect_standing-requires-2 : goal.expect_standing-requires-2
unfolding computing.ids
expect_standing-requires-2 c = (refl, refl, refl)
