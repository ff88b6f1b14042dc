-- The definitions give what each case of `refused` expects, by computation.
use Rattle.std.proofs.Common.{refl}
use Rattle.selftest_bundles.proofs.Computing as computing
use Rattle.selftest_bundles.proofs.compare.refused.Goals as goal

pub expect_report-requires : goal.expect_report-requires
unfolding computing.reports
expect_report-requires c = (refl, refl)

pub expect_report-requires-2 : goal.expect_report-requires-2
unfolding computing.reports
expect_report-requires-2 c = (refl, refl)
