-- The definitions give what each case of `heads` expects, by computation.
use Rattle.std.proofs.Common.{refl}
use Rattle.selftest_binaries.proofs.Computing as computing
use Rattle.selftest_binaries.proofs.binaries.heads.Goals as goal

pub expect_stop-requires : goal.expect_stop-requires
unfolding computing.binaries
expect_stop-requires c = refl

pub expect_stop-requires-2 : goal.expect_stop-requires-2
unfolding computing.binaries
expect_stop-requires-2 c = refl
