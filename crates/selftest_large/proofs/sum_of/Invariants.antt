use Rattle.std.proofs.Common.{◌<◌}
use Rattle.selftest_large.proofs.sum_of.Given as goal

-- the sum is below the number that it is reduced by
abbrev pub invariant-loop-byte : goal.invariant-loop-byte
invariant-loop-byte l = l.sum < 4294967291
