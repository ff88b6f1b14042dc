use Rattle.std.proofs.Common.{ap, ◌∙◌, nat_eq}
use Rattle.std.specs.Cmp.Lexicographic.{pointwise}
use Rattle.std.proofs.lemmas.Cmp.{lists_equiv, nat_list_eq_equiv}
use Rattle.selftest_bundles.proofs.each.expect_each.Goals as goal

pub expect-requires-2 : goal.expect-requires-2
expect-requires-2 c =
    let after = c.args.after.now in
    c.eq-2.ensures ∙ ap (λ x. pointwise (pointwise nat_eq) x after) (c.pick_each.ensures.slots_after ∙ c.requires.1) ∙ (lists_equiv nat_list_eq_equiv).refl after
