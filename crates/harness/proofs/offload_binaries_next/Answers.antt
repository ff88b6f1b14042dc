-- The numbers of a step are those of the definition's.
use Rattle.std.proofs.Common.{ap, ◌%◌}
use Rattle.harness.specs.Fields.{step_numbers}
use Rattle.harness.proofs.offload_binaries_next.Goals as goal

pub returns : goal.returns
unfolding step_numbers
returns c = ap (step_numbers (c.args.i % 32)) c.read_next-step.ensures
