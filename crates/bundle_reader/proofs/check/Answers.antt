use mathlib.Core.Path.{ap, ◌∙◌}
use Rattle.bundle.specs.Check.{check}
use Rattle.bundle_reader.proofs.IdLaws.{general_is}
use Rattle.bundle_reader.proofs.check.Goals as goal

pub returns : goal.returns
returns c = c.check_by.ensures ∙ ap (λ R. check R c.args.bundle.now) general_is
