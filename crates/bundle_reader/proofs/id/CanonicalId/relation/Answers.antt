use mathlib.Core.Path.{◌≡◌, sym, ◌∙◌}
use Rattle.entry_id.specs.Canonical.{head_key}
use Rattle.bundle_reader.proofs.IdLaws.{unrelated-same, unrelated-mixed}
use Rattle.bundle_reader.proofs.id.CanonicalId.relation.Goals as goal

pub returns-then-key : goal.returns-then-key
returns-then-key c =
    let apart : head_key c.args.self.now ≡ head_key c.args.other.now → ⊥ = λ e. c.if-key.true (c.key.ensures ∙ e ∙ sym c.key-2.ensures) in
    (sym (unrelated-same _ _ apart), sym (unrelated-mixed _ _ apart))
