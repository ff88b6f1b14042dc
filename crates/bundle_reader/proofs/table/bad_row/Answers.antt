use native.Mathlib.Omega.{arith}
use mathlib.Core.Path.{◌≡◌, sym, ◌∙◌}
use mathlib.Core.Bool.{true}
use mathlib.Core.Logic.{inl, inr}
use borrow.Author.Tests.{ltb-true, ltb-false}
use Rattle.wire.proofs.Bools.{by_bool}
use Rattle.bundle.specs.Check.{bad_row}
use Rattle.bundle.proofs.CheckLaws.{row_fits, row_bad}
use Rattle.bundle_reader.proofs.table.bad_row.Goals as goal
use Rattle.bundle_reader.proofs.table.bad_row.Goals.{then-s-from-via-then-s-from, then-s-from-via-else-s-from+then-s-from-lt24}

pub returns-then-s-from : goal.returns-then-s-from
returns-then-s-from c = elim c.then-s-from.branch [
  | then-s-from-via-then-s-from w ↦ sym (row_bad _ _ (λ f. omega arith))
  | then-s-from-via-else-s-from+then-s-from-lt24 w ↦ sym (row_bad _ _ (λ f. omega arith))
]

pub returns-then-len-gt256 : goal.returns-then-len-gt256
returns-then-len-gt256 c =
    let bad : bad_row c.args.s.now c.args.from ≡ true = elim c.if-len-gt256.either [
      | inl h ↦ row_bad _ _ (λ f. omega arith)
      | inr h ↦ row_bad _ _ (λ f. omega arith)
    ] in
    cc

pub returns-else-len-gt256 : goal.returns-else-len-gt256
returns-else-len-gt256 c = by_bool _
    (λ t. t ∙ sym (row_bad _ _ (λ f. omega (arith, ltb-true))))
    (λ g. g ∙ sym ((row_fits _ _).1 (omega (arith, ltb-false))))
