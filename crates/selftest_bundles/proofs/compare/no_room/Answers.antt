-- The definitions give what each case of `no_room` expects, by computation.
use Rattle.std.proofs.Common.{refl}
use Rattle.selftest_bundles.proofs.Computing as computing
use Rattle.selftest_bundles.proofs.compare.no_room.Goals as goal

pub expect_report-requires : goal.expect_report-requires
unfolding computing.reports
expect_report-requires c = (refl, refl)
