use mathlib.Core.Path.{◌∙◌}
use Rattle.bundle_reader.proofs.IdLaws.{taken_first}
use Rattle.bundle_reader.proofs.id.CanonicalId.of.Goals as goal

pub returns : goal.returns
returns c = c.read.ensures.self_after ∙ taken_first _ _ c.new-form.ensures
