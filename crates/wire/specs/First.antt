-- "the lowest .. index it applies to": the lowest index with a property. Definitions only.
use Rattle.std.specs.Prelude.{ℕ, zero, suc, Bool, true, false, ltb}

-- the lowest index below n at which p holds; n where there is none
unfoldable pub first : ℕ → (ℕ → Bool) → ℕ
first zero p = zero
first (suc n) p = elim (p zero) [ true ↦ zero | false ↦ suc (first n (λ i. p (suc i))) ]

-- p holds at some index below n
unfoldable pub any_below : ℕ → (ℕ → Bool) → Bool
any_below n p = ltb (first n p) n
