-- Images beside each other. Assumes nothing.
use Prim.Native.Nat.{ℕ, ◌+◌, ◌<◌, ◌≤◌}
use native.Mathlib.Omega.{arith}
use mathlib.Core.Path.{◌≡◌}
use mathlib.Core.Bool.{false, ◌&&◌}
use lib.Dec.{ltb}
use borrow.Author.Tests.{ltb-false}
use borrow.Author.Count.{below_more}
use Rattle.wire.specs.Stop.{earlier}
use Rattle.wire.proofs.Bools.{by_bool, clash, both_and}
use Rattle.wire.proofs.StopLaws.{earlier-none}
use Rattle.bundle.specs.Table.{Row}
use Rattle.bundle.specs.Check.{overlaps}
use Rattle.bundle.proofs.OverlapLaws.{apart-after, apart-before}

-- the first i images lie from `low` to `high`
abbrev pub From : (ℕ → Row) → ℕ → ℕ → ℕ → Type 0
From rows i low high = (k : ℕ) → k < i → (low ≤ (rows k).offset) × ((rows k).offset + (rows k).size ≤ high)

-- image i, from `start` to `end`, and the earlier ones
module _ (rows : ℕ → Row) (i low high : ℕ) (within : From rows i low high) (start end : ℕ) (p : start ≡ (rows i).offset) (q : end ≡ (rows i).offset + (rows i).size) where
  pub apart_beside : (ltb start high && ltb low end) ≡ false → earlier overlaps rows i ≡ false
  apart_beside f = earlier-none overlaps rows i (λ j l.
      by_bool (ltb start high)
      (λ t.
      by_bool (ltb low end)
      (λ u. clash _ (both_and _ _ t u) f)
      (λ v. apart-before (rows j) (rows i) (omega (arith, ltb-false low end v, (within j l).0))))
      (λ v. apart-after (rows j) (rows i) (omega (arith, ltb-false start high v, (within j l).1))))

  pub within_more : (low₁ high₁ : ℕ) → (low₁ ≤ low) × (low₁ ≤ start) → (high ≤ high₁) × (end ≤ high₁) → From rows (i + 1) low₁ high₁
  within_more low₁ high₁ (a, b) (c, d) =
      below_more (λ k. (low₁ ≤ (rows k).offset) × ((rows k).offset + (rows k).size ≤ high₁)) i
      (λ k h. (omega (arith, (within k h).0), omega (arith, (within k h).1))) (omega arith, omega arith)
