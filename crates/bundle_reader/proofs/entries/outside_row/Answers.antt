use native.Mathlib.Omega.{arith}
use mathlib.Core.Path.{◌≡◌, sym, ◌∙◌}
use mathlib.Core.Bool.{true}
use mathlib.Core.Logic.{inl, inr}
use borrow.Author.Tests.{ltb-true, ltb-false}
use Rattle.wire.proofs.Bools.{by_bool}
use Rattle.bundle.specs.Check.{outside}
use Rattle.bundle.proofs.CheckLaws.{inside, range_bad}
use Rattle.bundle_reader.proofs.entries.outside_row.Goals as goal

pub returns-then-len-offset : goal.returns-then-len-offset
returns-then-len-offset c =
    let a = c.args in
    let bad : outside a.end a.len a.row.image_start a.row.image_len ≡ true = elim c.if-len-offset.either [
      | inl h ↦ range_bad _ _ _ _ (λ f. omega arith)
      | inr h ↦ range_bad _ _ _ _ (λ f. omega arith)
    ] in
    cc

pub returns-else-len-offset : goal.returns-else-len-offset
returns-else-len-offset c = by_bool _
    (λ t. t ∙ sym (range_bad _ _ _ _ (λ f. omega (arith, ltb-true))))
    (λ g. g ∙ sym ((inside _ _ _ _).1 (omega (arith, ltb-false))))
