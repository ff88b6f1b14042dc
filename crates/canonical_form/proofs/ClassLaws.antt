-- The classes of bytes and the kinds, as the code asks for them. Assumes nothing.
use Rattle.std.proofs.Common.{◌≡◌, ℕ, ◌<◌, ◌≤◌, Bool, true, false, not, ◌&&◌, ◌||◌, T, eqb, leb, List, [], ◌∷◌, ◌++◌, length, get_or, sym, refl, ap, inl, inr, arith, T_not, eq-eqb, ne_eqb, eqb-true, le-leb, leb-false, leb-true}
use borrow.Author.Tests.{lt-leb, eqb-false}
use Rattle.wire.specs.Lists.{any, every}
use Rattle.wire.specs.Bytes.{same}
use Rattle.wire.proofs.Bools.{cases, of_true, and_l, and_r}
use Rattle.wire.proofs.ByteLaws.{same_length}
use Rattle.entry_id.specs.Meaning.{name_byte, field_byte, names_processor}

or_swap : (a b : Bool) → (a || b) ≡ ((b || a) || false)
or_swap true true = refl
or_swap true false = refl
or_swap false true = refl
or_swap false false = refl

or_none : (b : Bool) → b ≡ (b || false)
or_none true = refl
or_none false = refl

-- ---- bytes

pub name_letter : (b : ℕ) → (leb 97 b && leb b 122) ≡ true → true ≡ name_byte b
unfolding name_byte
name_letter b e = rw e

pub field_letter : (b : ℕ) → (leb 97 b && leb b 122) ≡ true → true ≡ field_byte b
unfolding field_byte name_byte
field_letter b e = rw e

module _ (b : ℕ) (e : (leb 97 b && leb b 122) ≡ false) where
  pub name_low : b ≤ 57 → leb 48 b ≡ name_byte b
  unfolding name_byte
  name_low h = elim (cases (leb 48 b)) [
    | inl k ↦ rw (e, k, le-leb b 57 h)
    | inr k ↦ rw (e, k, ne_eqb b 95 (λ z. omega arith))
  ]

  pub name_high : 57 < b → eqb b 95 ≡ name_byte b
  unfolding name_byte
  name_high h = rw (e, le-leb 48 b (omega arith), lt-leb b 57 h)

  pub field_low : b < 46 → false ≡ field_byte b
  unfolding field_byte name_byte
  field_low h = rw (e, lt-leb 48 b (omega arith), ne_eqb b 95 (λ z. omega arith), lt-leb 65 b (omega arith), ne_eqb b 46 (λ z. omega arith))

  pub field_digit : 46 ≤ b → b ≤ 57 → not (eqb b 47) ≡ field_byte b
  unfolding field_byte name_byte
  field_digit h k = elim (cases (leb 48 b)) [
    | inl u ↦ rw (e, u, le-leb b 57 k, ne_eqb b 47 (λ z. omega (arith, leb-true 48 b u)))
    | inr u ↦ elim (cases (eqb b 47)) [
      | inl w ↦ let z = eqb-true b 47 w in rw (e, u, w, ne_eqb b 95 (λ y. omega arith), lt-leb 65 b (omega arith), ne_eqb b 46 (λ y. omega arith))
      | inr w ↦ let z = eqb-false b 47 w in let y = leb-false 48 b u in rw (e, u, w, ne_eqb b 95 (λ y. omega arith), lt-leb 65 b (omega arith), eq-eqb b 46 (omega arith))
    ]
  ]

  pub field_high : 57 < b → ((leb 65 b && leb b 90) || eqb b 95) ≡ field_byte b
  unfolding field_byte name_byte
  field_high h = rw (e, le-leb 48 b (omega arith), lt-leb b 57 h, ne_eqb b 46 (λ z. omega arith)) (or_swap (leb 65 b && leb b 90) (eqb b 95))

-- ---- texts of other lengths

module _ (k : List ℕ) where
  other_not : (v : List ℕ) → T (not (eqb (length k) (length v))) → same k v ≡ false
  other_not v t = same_length k v (λ e. T_not (eqb (length k) (length v)) t (of_true _ (eq-eqb (length k) (length v) e)))

  pub none-same : (l : List (List ℕ)) → T (every (λ v. not (eqb (length k) (length v))) l) → false ≡ any (same k) l
  unfolding every any
  none-same [] t = refl
  none-same (v ∷ l) t =
      rw (other_not v (and_l (not (eqb (length k) (length v))) (every (λ w. not (eqb (length k) (length w))) l) t)) (none-same l (and_r (not (eqb (length k) (length v))) (every (λ w. not (eqb (length k) (length w))) l) t))

  -- where only one of the texts has the length, it decides
  pub one_same : (w : List ℕ) (a b : List (List ℕ)) → T (every (λ v. not (eqb (length k) (length v))) a) → T (every (λ v. not (eqb (length k) (length v))) b) → same k w ≡ any (same k) (a ++ w ∷ b)
  unfolding every any
  one_same w [] b s t = rw (sym (none-same b t)) (or_none (same k w))
  one_same w (v ∷ a) b s t =
      rw (other_not v (and_l (not (eqb (length k) (length v))) (every (λ u. not (eqb (length k) (length u))) a) s)) (one_same w a b (and_r (not (eqb (length k) (length v))) (every (λ u. not (eqb (length k) (length u))) a) s) t)

-- ---- the start of a processor

and_two : (p q : Bool) → (p && q) ≡ ((p && (q && true)) || false)
and_two true true = refl
and_two true false = refl
and_two false q = refl

and_last : (p q : Bool) → (p && q) ≡ (p && (q && true))
and_last true true = refl
and_last true false = refl
and_last false q = refl

pub proc_g : (f : List ℕ) → 3 ≤ length f → get_or f 0 0 ≡ 103 → (eqb (get_or f 1 0) 102 && eqb (get_or f 2 0) 120) ≡ names_processor f
unfolding names_processor same
proc_g [] h e = absurd (omega arith)
proc_g (a ∷ []) h e = absurd (omega arith)
proc_g (a ∷ b ∷ []) h e = absurd (omega arith)
proc_g (a ∷ b ∷ c ∷ f) h e = rw (eq-eqb a 103 e, ne_eqb a 115 (λ z. omega arith)) (and_two (eqb b 102) (eqb c 120))

pub proc_s : (f : List ℕ) → 3 ≤ length f → (get_or f 0 0 ≡ 103 → ⊥) → (eqb (get_or f 0 0) 115 && (eqb (get_or f 1 0) 109 && eqb (get_or f 2 0) 95)) ≡ names_processor f
unfolding names_processor same
proc_s [] h n = absurd (omega arith)
proc_s (a ∷ []) h n = absurd (omega arith)
proc_s (a ∷ b ∷ []) h n = absurd (omega arith)
proc_s (a ∷ b ∷ c ∷ f) h n = rw (ne_eqb a 103 n) (ap (λ r. eqb a 115 && r) (and_last (eqb b 109) (eqb c 95)))
