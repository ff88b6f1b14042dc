-- The length of the form that was made is the length of the definition's.
use Rattle.std.proofs.Common.{length, sym, ap, ◌∙◌}
use Rattle.canonical_form.proofs.MadeLaws.{form_parts, form_none}
use Rattle.bench_calls.proofs.offload_canonical_length.Goals as goal

pub returns-in-Some-clause-value : goal.returns-in-Some-clause-value
returns-in-Some-clause-value c = (form_parts _ _ (sym c.in-Some.is ∙ c.canonical.ensures.0)).1

pub returns-in-Some-clause-out_after : goal.returns-in-Some-clause-out_after
returns-in-Some-clause-out_after c = let m = c.canonical.ensures in rw (form_parts _ _ (sym c.in-Some.is ∙ m.0)).1 m.1

pub returns-in-None-clause-value : goal.returns-in-None-clause-value
returns-in-None-clause-value c = sym (ap length (form_none _ (sym c.in-None.is ∙ c.canonical.ensures.0)))

pub returns-in-None-clause-out_after : goal.returns-in-None-clause-out_after
returns-in-None-clause-out_after c =
    let m = c.canonical.ensures in
    let e = form_none _ (sym c.in-None.is ∙ m.0) in
    rw e (rw e at m.1)
