use native.Mathlib.Omega.{arith}
use mathlib.Core.Path.{sym, ap, ◌∙◌}
use mathlib.Core.Bool.{not}
use lib.ListN.{take}
use Rattle.entry_id.proofs.RuleLaws.{rules_lawful}
use Rattle.entry_id.specs.Canonical.{head_key}
use Rattle.bundle_reader.proofs.IdLaws.{made_length, made_text, made_key, made_some, made-none, made-kept, taken_new, taken_old}
use Rattle.bundle_reader.proofs.id.CanonicalId.read.Goals as goal

pub invariant_of-self : goal.invariant_of-self
invariant_of-self c =
    let m = c.in-Some.ensures in
    (omega (arith, made_length _ _ _ m.1 _ m.0, (rules_lawful c.args.reading).canon_short c.args.id.now), made_key _ _ _ m.1 _ m.0)

pub invariant_of-self-in-None : goal.invariant_of-self-in-None
invariant_of-self-in-None c =
    let m = c.in-None.ensures in
    let s = c.self in
    (s.invariant.0, s.invariant.1 ∙ ap (λ t. head_key (take s.inside.len t)) (sym (made-kept _ _ _ m.1 m.0)))

pub returns-in-Some-clause-value : goal.returns-in-Some-clause-value
returns-in-Some-clause-value c = let m = c.in-Some.ensures in ap not (sym (made_some _ _ _ m.1 _ m.0))

pub returns-in-Some-clause-self_after : goal.returns-in-Some-clause-self_after
returns-in-Some-clause-self_after c =
    let m = c.in-Some.ensures in
    made_text _ _ _ m.1 _ m.0 ∙ sym (taken_new _ c.args.self.now (made_some _ _ _ m.1 _ m.0))

pub returns-in-None-clause-value : goal.returns-in-None-clause-value
returns-in-None-clause-value c = let m = c.in-None.ensures in ap not (sym (made-none _ _ _ m.1 m.0))

pub returns-in-None-clause-self_after : goal.returns-in-None-clause-self_after
returns-in-None-clause-self_after c =
    let m = c.in-None.ensures in
    ap (take c.self.inside.len) (made-kept _ _ _ m.1 m.0) ∙ c.self.view_is ∙ sym (taken_old _ c.args.self.now (made-none _ _ _ m.1 m.0))
