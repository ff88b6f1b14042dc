-- The definitions give what each case of `bare` expects, by computation.
use Rattle.std.proofs.Common.{refl}
use Rattle.selftest_binaries.proofs.Computing as computing
use Rattle.selftest_binaries.proofs.binary_writer.bare.Goals as goal

pub expect_listed-requires-clause-gives : goal.expect_listed-requires-clause-gives
unfolding computing.binaries
expect_listed-requires-clause-gives c = refl
