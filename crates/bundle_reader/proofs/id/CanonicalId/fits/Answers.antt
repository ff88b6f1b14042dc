use mathlib.Core.Path.{sym, ◌∙◌}
use borrow.Author.Tests.{ne_eqb}
use Rattle.bundle_reader.proofs.IdLaws.{unrelated-compatible}
use Rattle.bundle_reader.proofs.id.CanonicalId.fits.Goals as goal

pub returns-else-key : goal.returns-else-key
returns-else-key c = ne_eqb _ _ c.if-key.false ∙ sym (unrelated-compatible _ _ (λ e. c.if-key.false (c.key.ensures ∙ e ∙ sym c.key-2.ensures)))
