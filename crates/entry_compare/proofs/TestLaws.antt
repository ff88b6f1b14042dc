-- The tests on two texts, piece by piece. Assumes nothing.
use Prim.Native.Nat.{ℕ, zero, suc, ◌+◌, ◌-◌, ◌≤◌, ◌<◌}
use mathlib.Core.Path.{◌≡◌, refl, sym, ap, ap₂, ◌∙◌, subst}
use mathlib.Core.Logic.{inl, inr}
use mathlib.Core.Bool.{Bool, true, false, not, ◌&&◌}
use mathlib.Core.List.{List, [], ◌∷◌}
use lib.ListN.{length, get_or, take, drop, drop_of_length-le, length-drop}
use lib.Seq.{drop-cons, drop-drop, get_or-drop, get_or-take, length-take-le}
use lib.Dec.{T, ltb, eqb}
use borrow.Author.Tests.{eqb-true, eqb-false, eq-eqb, ne_eqb, lt-ltb, le-ltb, ltb-true, ltb-false, not-true}
use Rattle.wire.specs.Lists.{agree, any, every}
use Rattle.entry_id.specs.Text.{other_than, not_colon}
use Rattle.wire.specs.Bytes.{same, common}
use Rattle.entry_id.proofs.TextLaws.{every_imp}
use Rattle.entry_id.proofs.KindLaws.{head_none, head_colon, head_more}
use Rattle.wire.proofs.Bools.{cases, by_bool, clash, and_both, or_true, and_false, of_true, is_true, and_l, and_r, and_t, or_l, or_r}
use Rattle.wire.proofs.ByteLaws.{same_refl, same_eq, same_length, same-common, common-within, common-apart, common-take, common_get}
use Rattle.entry_id.specs.Meaning.{pieces_of}
use Rattle.entry_id.specs.Scan.{part, Run, pieces_at, ends_at}
use Rattle.entry_compare.specs.Meet.{Meet}
use Rattle.entry_id.specs.Canonical.{head_of, within, sign_byte, same_but_sign, compatible_spelled, mixed_spelled}
use Rattle.entry_id.proofs.RunLaws.{cut-piece, pieces_part, goes_on, stop_here, head_stops, part_start, pieces_here, pieces_none}
use native.Mathlib.Omega.{arith}
use native.Mathlib.Numerals.{add-one}

-- what is left of the pieces decides: the piece behind the ':' at `at` ends at e
pub every-next : (q : List ℕ → Bool) (x : List ℕ) (at e : ℕ) → at < length x → Run not_colon x (at + 1) e → every q (pieces_at x at) ≡ (q (part x (at + 1) e) && every q (pieces_at x e))
unfolding every
every-next q x at e h s = rw (pieces_here x at h, sym (add-one at), cut-piece x (at + 1) e s)

pub every_end : (q : List ℕ → Bool) (x : List ℕ) (at : ℕ) → length x ≤ at → every q (pieces_at x at) ≡ true
unfolding every
every_end q x at h = rw (pieces_none x at h)

-- one passes where not all fail
pub none_fails : (q : List ℕ → Bool) (l : List (List ℕ)) → not (every (λ p. not (q p)) l) ≡ any q l
unfolding every any
none_fails q [] = refl
none_fails q (p ∷ l) = by_bool (q p) (λ t. rw t) (λ f. rw f (none_fails q l))

-- ---- common starts

module _ (x : List ℕ) (i : ℕ) where
  head_ends : ends_at x i ≡ true → head_of (drop i x) ≡ []
  unfolding ends_at
  head_ends e = elim (cases (ltb i (length x))) [
    | inl h ↦
        let k = ltb-true i (length x) h in
        rw (drop-cons x i 0 k) (head_colon (get_or x i 0) (drop (suc i) x) (eqb-true (get_or x i 0) 58 (rw h at e)))
    | inr h ↦ rw (drop_of_length-le x (ltb-false i (length x) h)) head_none
  ]

  head_on : ends_at x i ≡ false → head_of (drop i x) ≡ get_or x i 0 ∷ head_of (drop (suc i) x)
  head_on e = let g = goes_on x i e in rw (drop-cons x i 0 g.0) (head_more (get_or x i 0) (drop (suc i) x) g.1)

module _ (a b : List ℕ) (i : ℕ) where
  meet_short : ends_at a i ≡ false → length b ≤ i → same (head_of (drop i a)) (head_of (drop i b)) ≡ false
  unfolding same
  meet_short e k = rw (head_on a i e, drop_of_length-le b k, head_none)

  meet_differ : ends_at a i ≡ false → i < length b → (get_or a i 0 ≡ get_or b i 0 → ⊥) → same (head_of (drop i a)) (head_of (drop i b)) ≡ false
  unfolding same
  meet_differ e k n = elim (cases (ends_at b i)) [
    | inl h ↦ rw (head_on a i e, head_ends b i h)
    | inr h ↦ rw (head_on a i e, head_on b i h, ne_eqb (get_or a i 0) (get_or b i 0) n)
  ]

  meet_ends_b : ends_at a i ≡ false → i < length b → get_or a i 0 ≡ get_or b i 0 → ends_at b i ≡ false
  unfolding ends_at
  meet_ends_b e k q = rw (lt-ltb i (length b) k, sym q) (ne_eqb (get_or a i 0) 58 (goes_on a i e).1)

  meet_step : ends_at a i ≡ false → i < length b → get_or a i 0 ≡ get_or b i 0 → same (head_of (drop i a)) (head_of (drop i b)) ≡ same (head_of (drop (i + 1) a)) (head_of (drop (i + 1) b))
  unfolding same
  meet_step e k q = rw (add-one i, head_on a i e, head_on b i (meet_ends_b e k q), eq-eqb (get_or a i 0) (get_or b i 0) q)

  meet_end : ends_at a i ≡ true → same (head_of (drop i a)) (head_of (drop i b)) ≡ ends_at b i
  unfolding same
  meet_end e = elim (cases (ends_at b i)) [
    | inl h ↦ rw (h, head_ends a i e, head_ends b i h)
    | inr h ↦ rw (h, head_ends a i e, head_on b i h)
  ]

every_get : (p : ℕ → Bool) (l : List ℕ) → T (every p l) → (k : ℕ) → k < length l → p (get_or l k 0) ≡ true
unfolding every
every_get p [] t k h = absurd (omega arith)
every_get p (x ∷ l) t zero h = is_true _ (and_l (p x) (every p l) t)
every_get p (x ∷ l) t (suc k) h = every_get p l (and_r (p x) (every p l) t) k (omega arith)

-- a head that ends at e
module _ (x : List ℕ) (e : ℕ) (r : Run not_colon x 0 e) where
  head_goes : (k : ℕ) → k < e → ends_at x k ≡ false
  unfolding ends_at other_than
  head_goes k h =
      let t : T (every not_colon (take e x)) = subst (λ z. T (every not_colon z)) (part_start x e) r.passed in
      let l : k < length (take e x) = omega (arith, length-take-le e x r.high) in
      let q : not_colon (get_or x k 0) ≡ true = ap not_colon (sym (get_or-take e x k 0 h)) ∙ every_get not_colon (take e x) t k l in
      rw (lt-ltb k (length x) (omega (arith, r.high))) (not-true _ q)

-- the heads of two texts whose common start has n bytes, the first head ending at e
module _ (a b : List ℕ) (e n : ℕ) (r : Run not_colon a 0 e) (c : n ≡ common a b) where
  heads_from : (k : ℕ) → k ≤ e → k ≤ n → same (head_of a) (head_of b) ≡ same (head_of (drop k a)) (head_of (drop k b))
  heads_from zero h l = refl
  heads_from (suc k) h l =
      heads_from k (omega arith) (omega arith)
      ∙ meet_step a b k (head_goes a e r k (omega arith)) (omega (arith, c, (common-within a b).1)) (common_get a b k (omega (arith, c)))
      ∙ ap (λ z. same (head_of (drop z a)) (head_of (drop z b))) (add-one k)

  pub meet_apart : n < e → same (head_of a) (head_of b) ≡ false
  meet_apart h =
      let g = head_goes a e r n h in
      heads_from n (omega arith) (omega arith) ∙ (elim (cases (ltb n (length b))) [
        | inl t ↦
            let l = ltb-true n (length b) t in
            meet_differ a b n g l (eqb-false _ _ (ap (λ k. eqb (get_or a k 0) (get_or b k 0)) c ∙ common-apart a b (omega (arith, c, r.high)) (omega (arith, c))))
        | inr f ↦ meet_short a b n g (ltb-false n (length b) f)
      ])

  module _ (h : e ≤ n) where
    meet_at : same (head_of a) (head_of b) ≡ ends_at b e
    meet_at = heads_from e (omega arith) h ∙ meet_end a b e (head_stops a 0 e r)

    meet_run : ends_at b e ≡ true → Run not_colon b 0 e
    meet_run t = record {
      low = omega arith;
      high = omega (arith, c, (common-within a b).1);
      passed = subst (λ z. T (every not_colon z)) (part_start a e ∙ common-take a b e (omega (arith, c)) ∙ sym (part_start b e)) r.passed;
      stop = stop_here b e t;
    }

    pub meet_found : ends_at b e ≡ true → Meet a b e
    meet_found t = record { heads = meet_at ∙ t; in_a = r; in_b = meet_run t }

    pub meet_other : ends_at b e ≡ false → same (head_of a) (head_of b) ≡ false
    meet_other t = meet_at ∙ t

pub ends_inside : (x : List ℕ) (e : ℕ) (v : Bool) → e < length x → eqb (get_or x e 0) 58 ≡ v → ends_at x e ≡ v
unfolding ends_at
ends_inside x e v h t = rw (lt-ltb e (length x) h) t

pub ends_past : (x : List ℕ) (e : ℕ) → length x ≤ e → ends_at x e ≡ true
unfolding ends_at
ends_past x e h = rw (le-ltb e (length x) h)

module _ (a b : List ℕ) (e : ℕ) (m : Meet a b e) where
  pub compatible_yes : within (pieces_at b e) (pieces_at a e) ≡ compatible_spelled a b
  unfolding compatible_spelled
  compatible_yes = rw (m.heads, pieces_part a 0 e m.in_a, pieces_part b 0 e m.in_b)

  -- of texts that are not the same but for signs
  pub mixed_yes : agree same_but_sign a b ≡ false → true ≡ mixed_spelled a b
  unfolding mixed_spelled
  mixed_yes f = rw (f, m.heads)

module _ (a b : List ℕ) (e : same (head_of a) (head_of b) ≡ false) where
  pub compatible_no : false ≡ compatible_spelled a b
  unfolding compatible_spelled
  compatible_no = rw e

  pub mixed_no : false ≡ mixed_spelled a b
  unfolding mixed_spelled
  mixed_no = rw e

within_self : (l : List (List ℕ)) → T (every (λ p. any (same p) l) l)
unfolding every any
within_self [] = tt
within_self (x ∷ l) =
    and_t (any (same x) (x ∷ l)) (every (λ p. any (same p) (x ∷ l)) l)
    (or_l (same x x) (any (same x) l) (same_refl x))
    (every_imp (λ p. any (same p) l) (λ p. any (same p) (x ∷ l)) (λ p t. or_r (same p x) (any (same p) l) t) l (within_self l))

-- a text is compatible with itself
pub compatible_self : (a b : List ℕ) → same a b ≡ true → true ≡ compatible_spelled a b
unfolding compatible_spelled within
compatible_self a b e =
    sym (is_true _ (and_t (same (head_of a) (head_of a)) (within (pieces_of a) (pieces_of a)) (same_refl (head_of a)) (within_self (pieces_of a))))
    ∙ ap (compatible_spelled a) (same_eq a b (of_true (same a b) e))

pub mixed_alike : (a b : List ℕ) → agree same_but_sign a b ≡ true → false ≡ mixed_spelled a b
unfolding mixed_spelled
mixed_alike a b e = rw e (sym (and_false (same (head_of a) (head_of b))))

-- ---- two texts, the same but for signs up to i

pub alike_lengths : (a b : List ℕ) → (length a ≡ length b → ⊥) → agree same_but_sign a b ≡ false
unfolding agree
alike_lengths [] [] h = absurd (h refl)
alike_lengths [] (y ∷ b) h = refl
alike_lengths (x ∷ a) [] h = refl
alike_lengths (x ∷ a) (y ∷ b) h = rw (alike_lengths a b (λ (e : length a ≡ length b). h (ap suc e))) (and_false (same_but_sign x y))

-- the common start decides nothing
alike_common : (s t : List ℕ) → agree same_but_sign s t ≡ agree same_but_sign (drop (common s t) s) (drop (common s t) t)
unfolding agree same_but_sign common
alike_common [] [] = refl
alike_common [] (y ∷ t) = refl
alike_common (x ∷ s) [] = refl
alike_common (x ∷ s) (y ∷ t) = by_bool (eqb x y) (λ e. rw e (alike_common s t))
    (λ e. let z : common (x ∷ s) (y ∷ t) ≡ 0 = rw e in ap (λ k. agree same_but_sign (drop k (x ∷ s)) (drop k (y ∷ t))) (sym z))

-- at the end of a common start of n bytes
module _ (a b : List ℕ) (n : ℕ) (c : n ≡ common a b) where
  pub alike_start : agree same_but_sign a b ≡ agree same_but_sign (drop n a) (drop n b)
  alike_start = alike_common a b ∙ ap (λ k. agree same_but_sign (drop k a) (drop k b)) (sym c)

  pub start_apart : length a ≡ length b → n < length a → eqb (get_or a n 0) (get_or b n 0) ≡ false
  start_apart e h = ap (λ k. eqb (get_or a k 0) (get_or b k 0)) c ∙ common-apart a b (omega arith) (omega arith)

-- up to `at`, where the bytes differ
module _ (a b : List ℕ) (at : ℕ) (equal : length a ≡ length b) (so_far : agree same_but_sign a b ≡ agree same_but_sign (drop at a) (drop at b)) (h : at < length a) where
  k : at < length b
  k = omega (arith, equal)

  pub alike_other : eqb (get_or a at 0) (get_or b at 0) ≡ false → (sign_byte (get_or a at 0) && sign_byte (get_or b at 0)) ≡ false → false ≡ agree same_but_sign a b
  unfolding agree same_but_sign
  alike_other apart e = sym (so_far ∙ ap₂ (agree same_but_sign) (drop-cons a at 0 h) (drop-cons b at 0 k) ∙ rw (e, apart))

  -- both are signs: on to the end of what is common behind them
  module _ (e : (sign_byte (get_or a at 0) && sign_byte (get_or b at 0)) ≡ true) (n : ℕ) (c : n ≡ common (drop (at + 1) a) (drop (at + 1) b)) where
    past-sign : agree same_but_sign a b ≡ agree same_but_sign (drop (at + 1) a) (drop (at + 1) b)
    unfolding agree same_but_sign
    past-sign = so_far ∙ ap₂ (agree same_but_sign) (drop-cons a at 0 h) (drop-cons b at 0 k) ∙ rw (e, or_true (eqb (get_or a at 0) (get_or b at 0)), add-one at)

    pub alike_next : agree same_but_sign a b ≡ agree same_but_sign (drop (at + 1 + n) a) (drop (at + 1 + n) b)
    alike_next = past-sign ∙ alike_start _ _ n c ∙ ap₂ (agree same_but_sign) (drop-drop n (at + 1) a) (drop-drop n (at + 1) b)

    pub next-apart : at + 1 + n < length a → eqb (get_or a (at + 1 + n) 0) (get_or b (at + 1 + n) 0) ≡ false
    next-apart l =
        ap₂ eqb (sym (get_or-drop (at + 1) a n 0)) (sym (get_or-drop (at + 1) b n 0))
        ∙ start_apart (drop (at + 1) a) (drop (at + 1) b) n c (length-drop (at + 1) a ∙ ap (λ z. z - (at + 1)) equal ∙ sym (length-drop (at + 1) b)) (omega (arith, length-drop (at + 1) a))

pub alike_end : (a b : List ℕ) (i : ℕ) → length a ≤ i → length b ≤ i → agree same_but_sign a b ≡ agree same_but_sign (drop i a) (drop i b) → true ≡ agree same_but_sign a b
unfolding agree
alike_end a b i h k e = sym (e ∙ ap₂ (agree same_but_sign) (drop_of_length-le a h) (drop_of_length-le b k))

-- ---- two texts whose common start has n bytes

pub same_alike : (a b : List ℕ) → same a b ≡ true → agree same_but_sign a b ≡ true
unfolding agree same_but_sign same
same_alike [] [] e = refl
same_alike [] (y ∷ b) e = absurd (subst T (sym e) tt)
same_alike (x ∷ a) [] e = absurd (subst T (sym e) tt)
same_alike (x ∷ a) (y ∷ b) e = let (p, q) = and_both (eqb x y) (same a b) e in rw (p, same_alike a b q)

module _ (a b : List ℕ) (n : ℕ) (c : n ≡ common a b) where
  -- it is both of them, or they differ
  pub whole_same : (eqb n (length a) && eqb n (length b)) ≡ same a b
  whole_same =
      by_bool (eqb (length a) (length b))
      (λ t.
      let l = eqb-true (length a) (length b) t in
      let q : eqb n (length a) ≡ same a b = ap (λ z. eqb z (length a)) c ∙ same-common a b l in
      ap (λ z. eqb n (length a) && eqb n z) (sym l) ∙ twice (eqb n (length a)) ∙ q)
      (λ f.
      sym (by_bool (eqb n (length a) && eqb n (length b))
      (λ t.
      let (x, y) = and_both _ _ t in
      clash (eqb (length a) (length b)) (eq-eqb (length a) (length b) (sym (eqb-true n (length a) x) ∙ eqb-true n (length b) y)) f)
      (λ u. same_length a b (eqb-false _ _ f) ∙ sym u)))
    where
      twice : (x : Bool) → (x && x) ≡ x
      twice true = refl
      twice false = refl
