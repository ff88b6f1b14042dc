use native.Mathlib.Omega.{arith}
use mathlib.Core.Path.{◌≡◌, sym, ◌∙◌}
use mathlib.Core.Bool.{true}
use mathlib.Core.Logic.{inl, inr}
use borrow.Author.Tests.{ltb-true, ltb-false}
use Rattle.wire.proofs.Bools.{by_bool}
use Rattle.bundle.specs.Records.{bad_part}
use Rattle.bundle_reader.proofs.CheckLaws.{part_fits, part_bad}
use Rattle.bundle_reader.proofs.entries.bad_part.Goals as goal

pub returns-then-room-start : goal.returns-then-room-start
returns-then-room-start c =
    let bad : bad_part c.args.room c.args.row ≡ true = elim c.if-room-start.either [
      | inl h ↦ part_bad _ _ (λ f. grind arith)
      | inr h ↦ part_bad _ _ (λ f. omega arith)
    ] in
    cc

pub returns-else-room-start : goal.returns-else-room-start
returns-else-room-start c = by_bool _
    (λ t. t ∙ sym (part_bad _ _ (λ f. omega (arith, ltb-true))))
    (λ g. g ∙ sym ((part_fits _ _).1 (omega (arith, ltb-false))))
