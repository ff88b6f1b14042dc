-- The length of the canonical form is that of the definition.
use Rattle.std.proofs.Common.{length, sym, ap, ◌∙◌, eq-eqb}
use Rattle.canonical_form.proofs.MadeLaws.{form_parts, form_none}
use Rattle.selftest_ids.proofs.ids.expect_form_by.Goals.{in-Some, in-None}
use Rattle.selftest_ids.proofs.ids.expect_form_by.Goals as goal

pub expect-requires : goal.expect-requires
expect-requires c =
    let m = c.canonical_by.ensures.0 in
    eq-eqb _ _ (elim c.match-canonical_by.branch [
      | in-Some w ↦ w.made-is ∙ (form_parts _ _ (sym w.in-Some.is ∙ m)).1 ∙ c.requires.0
      | in-None w ↦ w.made-is ∙ sym (ap length (form_none _ (sym w.in-None.is ∙ m))) ∙ c.requires.0
    ])
