-- Decimal digits: their number, and what they say. Assumes nothing.
use Prim.Native.Nat.{ℕ, zero, suc, ◌+◌, ◌*◌, ◌-◌, ◌^◌, ◌/◌, ◌%◌, ◌<◌, ◌≤◌}
use native.Mathlib.Omega.{arith}
use mathlib.Core.Path.{◌≡◌, refl, sym, ap, ◌∙◌}
use mathlib.Core.Logic.{inl, inr}
use mathlib.Core.List.Memᴰ
use mathlib.Core.List.{List, [], ◌∷◌, ◌++◌, Memᴰ}
use lib.Dec.{ltb}
use lib.ListN.{length, get_or, length-append, get_or-append}
use borrow.Author.Tests.{ltb-true, ltb-false, lt-ltb, le-ltb}
use Rattle.wire.proofs.Bools.{by_bool}
use Rattle.bundle.specs.Differences.{decimal_of, decimal}
use Rattle.bundle.specs.DifferenceTheorems.{says_after, DecimalExact}

-- any number of digits that is enough gives the same
enough : (n m v : ℕ) → v ≤ n → v ≤ m → decimal_of n v ≡ decimal_of m v
unfolding decimal_of
enough zero zero v a b = refl
enough zero (suc m) v a b = rw (lt-ltb v 10 (omega arith))
enough (suc n) zero v a b = rw (lt-ltb v 10 (omega arith))
enough (suc n) (suc m) v a b =
    by_bool (ltb v 10)
    (λ t. rw t)
    (λ f. let h : 10 ≤ v = ltb-false v 10 f in rw f (ap (λ l. l ++ ((48 + v % 10) ∷ [])) (enough n m (v / 10) (omega arith) (omega arith))))

pub decimal_digit : (v : ℕ) → v < 10 → (48 + v) ∷ [] ≡ decimal v
unfolding decimal decimal_of
decimal_digit zero h = refl
decimal_digit (suc v) h = rw (lt-ltb (suc v) 10 h)

pub decimal_more : (v : ℕ) → 10 ≤ v → decimal (v / 10) ++ ((48 + v % 10) ∷ []) ≡ decimal v
unfolding decimal decimal_of
decimal_more zero h = absurd (omega arith)
decimal_more (suc v) h = rw (le-ltb (suc v) 10 h) (ap (λ l. l ++ ((48 + suc v % 10) ∷ [])) (enough (suc v / 10) v (suc v / 10) (omega arith) (omega arith)))

-- how many there are
decimal-length : (k n v : ℕ) → v < 10 ^ suc k → length (decimal_of n v) ≤ suc k
unfolding decimal_of
decimal-length k zero v h = omega arith
decimal-length zero (suc n) v h = rw (lt-ltb v 10 h) (omega arith)
decimal-length (suc k) (suc n) v h =
    by_bool (ltb v 10)
    (λ t. rw t (omega arith))
    (λ f. rw f (let i = decimal-length k n (v / 10) (omega arith) in omega (arith, i, length-append (decimal_of n (v / 10)) ((48 + v % 10) ∷ []))))

pub decimal_most : (k v : ℕ) → v < 10 ^ suc k → length (decimal v) ≤ suc k
unfolding decimal
decimal_most k v h = decimal-length k v v h

-- ---- what they say

says_append : (v : ℕ) (l : List ℕ) (c : ℕ) → says_after v (l ++ (c ∷ [])) ≡ 10 * says_after v l + (c - 48)
unfolding says_after
says_append v [] c = refl
says_append v (x ∷ l) c = says_append (10 * v + (x - 48)) l c

says_of : (n v : ℕ) → v ≤ n → says_after 0 (decimal_of n v) ≡ v
unfolding decimal_of says_after
says_of zero v h = omega arith
says_of (suc n) v h =
    by_bool (ltb v 10)
    (λ t. rw t (omega arith))
    (λ f. let l : 10 ≤ v = ltb-false v 10 f in rw f (omega (arith, says_append 0 (decimal_of n (v / 10)) (48 + v % 10), says_of n (v / 10) (omega arith))))

digit_only : (v c : ℕ) → v < 10 → Memᴰ c ((48 + v) ∷ []) → (48 ≤ c) × (c ≤ 57)
digit_only v c h m = elim (Memᴰ.cases_cons m) [ inl e ↦ (omega (arith, e), omega (arith, e)) | inr u ↦ absurd (Memᴰ.not-nil u) ]

digits_of : (n v c : ℕ) → v ≤ n → Memᴰ c (decimal_of n v) → (48 ≤ c) × (c ≤ 57)
unfolding decimal_of
digits_of zero v c h m = digit_only v c (omega arith) m
digits_of (suc n) v c h m =
    by_bool (ltb v 10)
    (λ t. digit_only v c (ltb-true v 10 t) (rw t at m))
    (λ f. let l : 10 ≤ v = ltb-false v 10 f in
    elim (Memᴰ.append_cases (decimal_of n (v / 10)) (rw f at m)) [
      | inl u ↦ digits_of n (v / 10) c (omega arith) u
      | inr u ↦ digit_only (v % 10) c (omega arith) u
    ])

first_of : (n v : ℕ) → v ≤ n → get_or (decimal_of n v) 0 0 ≡ 48 → v ≡ 0
unfolding decimal_of
first_of zero v h e = omega (arith, e)
first_of (suc n) v h e =
    by_bool (ltb v 10)
    (λ t. let k : 48 + v ≡ 48 = rw t at e in omega (arith, k))
    (λ f. let l : 10 ≤ v = ltb-false v 10 f in
    let k : get_or (decimal_of n (v / 10) ++ ((48 + v % 10) ∷ [])) 0 0 ≡ 48 = rw f at e in
    absurd (omega (arith, first_of n (v / 10) (omega arith) (sym (get_or-append (decimal_of n (v / 10)) ((48 + v % 10) ∷ []) 0 0 (some n (v / 10))) ∙ k))))
  where
    some : (n v : ℕ) → 0 < length (decimal_of n v)
    some zero v = omega arith
    some (suc n) v = by_bool (ltb v 10) (λ t. rw t (omega arith)) (λ f. rw f (omega (arith, length-append (decimal_of n (v / 10)) ((48 + v % 10) ∷ []))))

pub decimal_exact : (v : ℕ) → DecimalExact v
unfolding decimal
decimal_exact v = record { says = says_of v v (omega arith); digits = λ c m. digits_of v v c (omega arith) m; first = λ e. first_of v v (omega arith) e }
