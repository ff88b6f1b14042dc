-- Words by their bits, and counts. Definitions, and the statement of what holds of them, which `proofs/BitLaws` proves.
use Rattle.std.specs.Prelude.{ℕ, zero, suc, ◌+◌, ◌*◌, ◌^◌, ◌/◌, ◌%◌, ◌<◌, ◌≡◌, ◌↔◌, Bool, true, cond}
use Rattle.std.specs.Int.Count.{ones}

-- the word whose bit i, for each i below n, is set where p holds at i
unfoldable pub bits_below : ℕ → (ℕ → Bool) → ℕ
bits_below zero p = 0
bits_below (suc n) p = cond (p n) 1 0 * 2 ^ n + bits_below n p

-- at how many indices below n p holds
unfoldable pub count_below : ℕ → (ℕ → Bool) → ℕ
count_below zero p = 0
count_below (suc n) p = cond (p n) 1 0 + count_below n p

-- bit i of a word
unfoldable pub bit_at : ℕ → ℕ → ℕ
bit_at w i = w / 2 ^ i % 2

-- a word made so has n bits, bit i is set exactly where p holds at i, and its ones are as many as the indices at which p holds
pub record Bits (n : ℕ) (p : ℕ → Bool) : Type 0 where
  pub fits : bits_below n p < 2 ^ n
  pub bit : (i : ℕ) → (bit_at (bits_below n p) i ≡ 1) ↔ ((i < n) × (p i ≡ true))
  pub counted : ones (bits_below n p) ≡ count_below n p
