-- The definitions give what each case of `other_forms` expects, by computation.
use Rattle.std.proofs.Common.{refl}
use Rattle.selftest_ids.proofs.Computing as computing
use Rattle.selftest_ids.proofs.ids.other_forms.Goals as goal

pub expect_forms-requires-clause-id_len : goal.expect_forms-requires-clause-id_len
unfolding computing.ids
expect_forms-requires-clause-id_len c = (refl, refl)

pub expect_forms-requires-clause-id_len_2 : goal.expect_forms-requires-clause-id_len_2
unfolding computing.ids
expect_forms-requires-clause-id_len_2 c = (refl, refl)

pub expect_forms-requires-2-clause-id_len : goal.expect_forms-requires-2-clause-id_len
unfolding computing.ids
expect_forms-requires-2-clause-id_len c = (refl, refl)

pub expect_forms-requires-2-clause-id_len_2 : goal.expect_forms-requires-2-clause-id_len_2
unfolding computing.ids
expect_forms-requires-2-clause-id_len_2 c = (refl, refl)

pub expect_forms-requires-3-clause-id_len : goal.expect_forms-requires-3-clause-id_len
unfolding computing.ids
expect_forms-requires-3-clause-id_len c = (refl, refl)

pub expect_forms-requires-3-clause-id_len_2 : goal.expect_forms-requires-3-clause-id_len_2
unfolding computing.ids
expect_forms-requires-3-clause-id_len_2 c = (refl, refl)
