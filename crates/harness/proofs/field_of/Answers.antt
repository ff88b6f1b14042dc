use Rattle.std.proofs.Common.{rules}
use Rattle.harness.specs.Fields.{field}
use Rattle.harness.proofs.field_of.Goals as goal

pub returns-then-k-eq0 : goal.returns-then-k-eq0
unfolding field
returns-then-k-eq0 c = search rules

pub returns-then-k-eq1 : goal.returns-then-k-eq1
unfolding field
returns-then-k-eq1 c = search rules

pub returns : goal.returns
unfolding field
returns c = search rules
