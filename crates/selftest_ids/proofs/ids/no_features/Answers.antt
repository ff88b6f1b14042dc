-- The definitions give what each case of `no_features` expects, by computation.
use Rattle.std.proofs.Common.{refl}
use Rattle.selftest_ids.proofs.Computing as computing
use Rattle.selftest_ids.proofs.ids.no_features.Goals as goal

pub expect_form-requires : goal.expect_form-requires
unfolding computing.ids
expect_form-requires c = (refl, refl)

pub expect_form-requires-2 : goal.expect_form-requires-2
unfolding computing.ids
expect_form-requires-2 c = (refl, refl)
