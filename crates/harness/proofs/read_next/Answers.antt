-- A reader is asked once: it answers what the definition's next step answers, and stands where that leaves it.
use Rattle.std.proofs.Common.{rules}
use Rattle.offload_binaries.specs.Held.{answered, moved}
use Rattle.harness.proofs.read_next.Goals as goal

pub returns : goal.returns
unfolding answered moved
returns c = search rules
