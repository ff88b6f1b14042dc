use mathlib.Core.Path.{ap, ◌∙◌}
use Rattle.bundle.specs.Pick.{pick}
use Rattle.bundle_reader.proofs.IdLaws.{general_is}
use Rattle.bundle_reader.proofs.pick.Goals as goal

pub returns : goal.returns
returns c = c.pick_by.ensures ∙ ap (λ R. pick R c.args.bundle.now c.args.device.now) general_is
