-- Laws of words by their bits, and of counts. Assumes nothing.
use Prim.Native.Nat.{ℕ, zero, suc, ◌+◌, ◌-◌, ◌*◌, ◌^◌, ◌/◌, ◌%◌, ◌<◌, ◌≤◌}
use native.Mathlib.Nat.{pow-suc, mul_comm, zero-mul, zero-add, add-zero, one-mul, eq-or-lt_of_le, le_of_suc-le-suc, lt_of_lt_of_le, sub-add_cancel, div-eq_of_lt, mod-eq_of_lt}
use native.Mathlib.Omega.{arith}
use mathlib.Core.Path.{◌≡◌, refl, sym, ap, ◌∙◌}
use mathlib.Core.Logic.{◌↔◌, ⊎_elim}
use mathlib.Core.Bool.{Bool, true, false, ◌||◌, cond, or_comm}
use mathlib.Core.List.{List, [], ◌∷◌}
use borrow.Author.Tests.{eq-eqb, ne_eqb, eqb-true, ltb-true, ltb-false}
use lib.Arith.{digits_lt}
use lib.Bits.{bit_or, or_block}
use lib.Count.{ones, ones_cat, ones-ones}
use lib.Dec.{eqb, ltb, lit<}
use lib.ListN.{length}
use lib.Pow.{pow_mono, high, low, field, mod-mod-pow}
use Rattle.wire.specs.Bits.{bits_below, count_below, bit_at, Bits}
use Rattle.wire.specs.Lists.{any, distinct}
use Rattle.wire.proofs.Bools.{by_bool, or_true, or_false, eqb_sym}

bit_lt : (t : Bool) → cond {A = ℕ} t 1 0 < 2
bit_lt true = lit< tt
bit_lt false = lit< tt

pub bits_lt : (n : ℕ) (p : ℕ → Bool) → bits_below n p < 2 ^ n
unfolding bits_below
bits_lt zero p = lit< tt
bits_lt (suc n) p = rw (pow-suc 2 n, mul_comm (2 ^ n) 2) (digits_lt (bit_lt (p n)) (bits_lt n p))

-- ---- bit by bit

-- a bit below n is one of the n low digits
bit_low : (n a r i : ℕ) → r < 2 ^ n → i < n → bit_at (a * 2 ^ n + r) i ≡ bit_at r i
unfolding bit_at
bit_low n a r i h l =
    let w : ℕ = a * 2 ^ n + r in
    let e : w % 2 ^ (1 + i) ≡ r % 2 ^ (1 + i) =
    sym (mod-mod-pow w (n - (1 + i)) (1 + i)) ∙ ap (λ (k : ℕ). w % 2 ^ k % 2 ^ (1 + i)) (sub-add_cancel (omega arith)) ∙ ap (λ (x : ℕ). x % 2 ^ (1 + i)) (low a n h) in
    sym (field w 1 i) ∙ ap (λ (x : ℕ). x / 2 ^ i) e ∙ field r 1 i

bit_below : (n : ℕ) (p : ℕ → Bool) (i : ℕ) → i < n → bit_at (bits_below n p) i ≡ cond (p i) 1 0
unfolding bits_below bit_at
bit_below zero p i h = absurd (omega arith)
bit_below (suc n) p i h =
    ⊎_elim
    (λ (e : i ≡ n). rw e (ap (λ (x : ℕ). x % 2) (high (cond (p n) 1 0) n (bits_lt n p)) ∙ mod-eq_of_lt (bit_lt (p n))))
    (λ (l : i < n). bit_low n (cond (p n) 1 0) (bits_below n p) i (bits_lt n p) l ∙ bit_below n p i l)
    (eq-or-lt_of_le (le_of_suc-le-suc h))

bit_above : (n : ℕ) (p : ℕ → Bool) (i : ℕ) → n ≤ i → bit_at (bits_below n p) i ≡ 0
unfolding bit_at
bit_above n p i h = ap (λ (x : ℕ). x % 2) (div-eq_of_lt (lt_of_lt_of_le (bits_lt n p) (pow_mono h)))

bit-one : (t : Bool) → cond {A = ℕ} t 1 0 ≡ 1 → t ≡ true
bit-one true e = refl
bit-one false e = absurd (omega arith)

bit-set : (n : ℕ) (p : ℕ → Bool) (i : ℕ) → (bit_at (bits_below n p) i ≡ 1) ↔ ((i < n) × (p i ≡ true))
bit-set n p i = (
  (λ e.
      by_bool (ltb i n)
      (λ t. let l = ltb-true i n t in (l, bit-one (p i) (sym (bit_below n p i l) ∙ e)))
      (λ f. absurd (omega (arith, e, bit_above n p i (ltb-false i n f))))),
  (λ h. bit_below n p i h.0 ∙ ap (λ (t : Bool). cond t 1 0) h.1),
)

-- ---- how many

ones_bit : (t : Bool) → ones (cond t 1 0) ≡ cond t 1 0
ones_bit true = ones-ones 1
ones_bit false = ones-ones 0

pub ones_bits : (n : ℕ) (p : ℕ → Bool) → ones (bits_below n p) ≡ count_below n p
unfolding bits_below count_below
ones_bits zero p = ones-ones 0
ones_bits (suc n) p = ones_cat n (cond (p n) 1 0) (bits_below n p) (bits_lt n p) ∙ rw (ones_bit (p n), ones_bits n p)

pub bits_exact : (n : ℕ) (p : ℕ → Bool) → Bits n p
bits_exact n p = record { fits = bits_lt n p; bit = bit-set n p; counted = ones_bits n p }

-- ---- tests that agree, that hold nowhere, at one index, where one of two does, or at one index more

pub bits_same : (n : ℕ) (p q : ℕ → Bool) → ((i : ℕ) → i < n → p i ≡ q i) → bits_below n p ≡ bits_below n q
unfolding bits_below
bits_same zero p q h = refl
bits_same (suc n) p q h = rw (h n (omega arith), bits_same n p q (λ i l. h i (omega arith)))

pub count_same : (n : ℕ) (p q : ℕ → Bool) → ((i : ℕ) → i < n → p i ≡ q i) → count_below n p ≡ count_below n q
count_same n p q h = sym (ones_bits n p) ∙ ap ones (bits_same n p q h) ∙ ones_bits n q

pub bits_none : (n : ℕ) → bits_below n (λ i. false) ≡ 0
unfolding bits_below
bits_none zero = refl
bits_none (suc n) = rw (bits_none n, zero-mul (2 ^ n))

pub count_none : (n : ℕ) → count_below n (λ i. false) ≡ 0
count_none n = sym (ones_bits n (λ i. false)) ∙ ap ones (bits_none n) ∙ ones-ones 0

pub bits_one : (n i : ℕ) → i < n → bits_below n (eqb i) ≡ 2 ^ i
unfolding bits_below
bits_one zero i h = absurd (omega arith)
bits_one (suc n) i h =
    ⊎_elim
    (λ (e : i ≡ n).
    rw (e, eq-eqb n n refl, bits_same n (eqb n) (λ j. false) (λ j l. ne_eqb n j (λ (z : n ≡ j). omega arith)), bits_none n) (add-zero (1 * 2 ^ n) ∙ one-mul (2 ^ n)))
    (λ (l : i < n).
    rw (ne_eqb i n (λ (z : i ≡ n). omega arith), bits_one n i l, zero-mul (2 ^ n)) (zero-add (2 ^ i)))
    (eq-or-lt_of_le (le_of_suc-le-suc h))

or_bit : (a b : Bool) → bit_or (cond a 1 0) (cond b 1 0) ≡ cond (a || b) 1 0
or_bit true true = refl
or_bit true false = refl
or_bit false true = refl
or_bit false false = refl

pub bits_or : (n : ℕ) (p q : ℕ → Bool) → bit_or (bits_below n p) (bits_below n q) ≡ bits_below n (λ i. p i || q i)
unfolding bits_below
bits_or zero p q = refl
bits_or (suc n) p q =
    or_block n (cond (p n) 1 0) (cond (q n) 1 0) (bits_below n p) (bits_below n q) (bits_lt n p) (bits_lt n q)
    ∙ rw (or_bit (p n) (q n), bits_or n p q)

-- at any other index a test holds as before
or_other : (t : Bool) (i j : ℕ) → (i ≡ j → ⊥) → (t || eqb i j) ≡ t
or_other t i j h = ap (λ (b : Bool). t || b) (ne_eqb i j h) ∙ or_false t

more_below : (n : ℕ) (p : ℕ → Bool) (j : ℕ) → j < n → p j ≡ (p j || eqb n j)
more_below n p j l = sym (or_other (p j) n j (λ (z : n ≡ j). omega arith))

pub count_more : (n : ℕ) (p : ℕ → Bool) (i : ℕ) → i < n → p i ≡ false → count_below n (λ j. p j || eqb i j) ≡ suc (count_below n p)
unfolding count_below
count_more zero p i h f = absurd (omega arith)
count_more (suc n) p i h f =
    ⊎_elim
    (λ (e : i ≡ n).
    let g : p n ≡ false = ap p (sym e) ∙ f in
    rw (e, g, eq-eqb n n refl) (omega (arith, count_same n p (λ j. p j || eqb n j) (more_below n p))))
    (λ (l : i < n). rw (or_other (p n) i n (λ (z : i ≡ n). omega arith)) (omega (arith, count_more n p i l f)))
    (eq-or-lt_of_le (le_of_suc-le-suc h))

-- ---- the numbers of a list, each once

-- as many as there are numbers below n that stand in the list, where none stands there that is not below n
pub count-distinct : (n : ℕ) (l : List ℕ) → ((i : ℕ) → any (eqb i) l ≡ true → i < n) → count_below n (λ i. any (eqb i) l) ≡ length (distinct l)
unfolding any distinct
count-distinct n [] h = count_none n
count-distinct n (x ∷ l) h =
    let rest = count-distinct n l (λ i e. h i (rw e (or_true (eqb i x)))) in
    let have : ℕ → Bool = λ i. any (eqb i) l in
    by_bool (have x)
    (λ t. rw t (count_same n (λ i. eqb i x || have i) have (λ i b. by_bool (eqb i x) (λ e. rw e (sym (rw (eqb-true i x e) t))) (λ e. rw e)) ∙ rest))
    (λ f.
    rw f
    (count_same n (λ i. eqb i x || have i) (λ i. have i || eqb x i) (λ i b. rw (eqb_sym i x) (or_comm (eqb x i) (have i)))
    ∙ count_more n have x (h x (rw (eq-eqb x x refl))) f
    ∙ ap suc rest))
