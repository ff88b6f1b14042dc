-- Laws of byte strings: equality, the order, the common start. Assumes nothing.
use Prim.Native.Nat.{ℕ, zero, suc, ◌+◌, ◌-◌, ◌≤◌, ◌<◌}
use native.Mathlib.Omega.{arith}
use mathlib.Core.Path.{◌≡◌, refl, sym, ap, ap₂, ◌∙◌, subst}
use mathlib.Core.Logic.{◌⊎◌, inl, inr}
use mathlib.Core.Bool.{Bool, true, false, ◌&&◌, cond, or-false}
use mathlib.Core.List.{List, [], ◌∷◌}
use lib.Dec.{T, eqb, ltb, eqb→eq, eqb_refl, ltb→lt, lt→ltb, eqb-suc-suc}
use lib.ListN.{length, get_or, take}
use lib.Seq.{get_or-take}
use borrow.Author.Tests.{eq-eqb, ne_eqb, eqb-true, eqb-false, ltb-true, ltb-false, le-ltb}
use Rattle.wire.specs.Bytes.{empty, same, before, common}
use Rattle.wire.proofs.Bools.{and_l, and_r, and_t, or_t, or_l, or_r, of_true, is_true, is_false, by_bool, clash, cond_ind}

-- ---- empty

pub length-empty : (l : List ℕ) → length l ≡ 0 → empty l ≡ true
unfolding empty
length-empty [] e = refl
length-empty (x ∷ l) e = absurd (omega arith)

pub length_some : (l : List ℕ) → (length l ≡ 0 → ⊥) → empty l ≡ false
unfolding empty
length_some [] n = absurd (n refl)
length_some (x ∷ l) n = refl

pub empty_nil : (l : List ℕ) → empty l ≡ true → l ≡ []
unfolding empty
empty_nil [] e = refl
empty_nil (x ∷ l) e = clash false e refl

-- ---- same: equality

pub same_refl : (a : List ℕ) → T (same a a)
unfolding same
same_refl [] = tt
same_refl (x ∷ a) = and_t (eqb x x) (same a a) (eqb_refl x) (same_refl a)

pub same_eq : (a b : List ℕ) → T (same a b) → a ≡ b
unfolding same
same_eq [] [] t = refl
same_eq [] (y ∷ b) t = absurd t
same_eq (x ∷ a) [] t = absurd t
same_eq (x ∷ a) (y ∷ b) t =
    let p = eqb→eq x y (and_l (eqb x y) (same a b) t) in
    let q = same_eq a b (and_r (eqb x y) (same a b) t) in
    cc

pub same_true : (a b : List ℕ) → same a b ≡ true → a ≡ b
same_true a b e = same_eq a b (of_true (same a b) e)

pub eq_same : (a b : List ℕ) → a ≡ b → same a b ≡ true
eq_same a b e = ap (same a) (sym e) ∙ is_true (same a a) (same_refl a)

pub ne_same : (a b : List ℕ) → (a ≡ b → ⊥) → same a b ≡ false
ne_same a b n = is_false (same a b) (λ t. n (same_eq a b t))

pub same_sym : (a b : List ℕ) → same a b ≡ same b a
same_sym a b =
    by_bool (same a b)
    (λ t. t ∙ sym (eq_same b a (sym (same_true a b t))))
    (λ f. by_bool (same b a) (λ t. clash _ (eq_same a b (sym (same_true b a t))) f) (λ g. f ∙ sym g))

-- ---- before: a total order, irreflexive and transitive

-- the first bytes are in order, or they are the same and the rest is in order
step : (x y : ℕ) (a b : List ℕ) → T (before (x ∷ a) (y ∷ b)) → (x < y) ⊎ ((x ≡ y) × T (before a b))
unfolding before
step x y a b t =
    elim (or_t (ltb x y) (eqb x y && before a b) t) [
      | inl u ↦ inl (ltb→lt x y u)
      | inr u ↦ inr (eqb→eq x y (and_l (eqb x y) (before a b) u), and_r (eqb x y) (before a b) u)
    ]

first_lt : (x y : ℕ) (a b : List ℕ) → x < y → T (before (x ∷ a) (y ∷ b))
unfolding before
first_lt x y a b h = or_l (ltb x y) (eqb x y && before a b) (lt→ltb x y h)

first_eq : (x y : ℕ) (a b : List ℕ) → x ≡ y → T (before a b) → T (before (x ∷ a) (y ∷ b))
unfolding before
first_eq x y a b e t = or_r (ltb x y) (eqb x y && before a b) (and_t (eqb x y) (before a b) (of_true (eqb x y) (eq-eqb x y e)) t)

pub before_irrefl : (a : List ℕ) → T (before a a) → ⊥
unfolding before
before_irrefl [] t = t
before_irrefl (x ∷ a) t = elim (step x x a a t) [ inl h ↦ omega arith | inr h ↦ before_irrefl a h.1 ]

pub before_trans : (a b c : List ℕ) → T (before a b) → T (before b c) → T (before a c)
unfolding before
before_trans [] [] c s t = absurd s
before_trans [] (y ∷ b) [] s t = absurd t
before_trans [] (y ∷ b) (z ∷ c) s t = tt
before_trans (x ∷ a) [] c s t = absurd s
before_trans (x ∷ a) (y ∷ b) [] s t = absurd t
before_trans (x ∷ a) (y ∷ b) (z ∷ c) s t =
    elim (step x y a b s) [
      | inl h ↦ elim (step y z b c t) [
        | inl k ↦ first_lt x z a c (omega arith)
        | inr k ↦ first_lt x z a c (omega arith)
      ]
      | inr h ↦ elim (step y z b c t) [
        | inl k ↦ first_lt x z a c (omega arith)
        | inr k ↦ first_eq x z a c (omega arith) (before_trans a b c h.1 k.1)
      ]
    ]

pub before-total : (a b : List ℕ) → (T (before a b) → ⊥) → (T (before b a) → ⊥) → a ≡ b
unfolding before
before-total [] [] s t = refl
before-total [] (y ∷ b) s t = absurd (s tt)
before-total (x ∷ a) [] s t = absurd (t tt)
before-total (x ∷ a) (y ∷ b) s t =
    let m : ¬ (x < y) = λ h. s (first_lt x y a b h) in
    let n : ¬ (y < x) = λ h. t (first_lt y x b a h) in
    let e : x ≡ y = omega arith in
    let q = before-total a b (λ u. s (first_eq x y a b e u)) (λ u. t (first_eq y x b a (sym e) u)) in
    cc

pub before_other : (a b : List ℕ) → (T (before a b) → ⊥) → (a ≡ b → ⊥) → T (before b a)
before_other a b s n =
    by_bool (before b a)
    (λ e. of_true (before b a) e)
    (λ e. absurd (n (before-total a b s (λ t. subst T e t))))

-- ---- common

-- it is within both
pub common-within : (a b : List ℕ) → (common a b ≤ length a) × (common a b ≤ length b)
unfolding common
common-within [] b = (omega arith, omega arith)
common-within (x ∷ a) [] = (omega arith, omega arith)
common-within (x ∷ a) (y ∷ b) = let w = common-within a b in
    cond_ind (λ r. (r ≤ suc (length a)) × (r ≤ suc (length b))) (eqb x y) (suc (common a b)) 0 (omega (arith, w.0), omega (arith, w.1)) (omega arith, omega arith)

common_nil : (b : List ℕ) → common [] b ≡ 0
unfolding common
common_nil b = refl

module _ (x y : ℕ) (a b : List ℕ) where
  common_eq : x ≡ y → common (x ∷ a) (y ∷ b) ≡ suc (common a b)
  unfolding common
  common_eq e = rw (eq-eqb x y e)

  common_ne : (x ≡ y → ⊥) → common (x ∷ a) (y ∷ b) ≡ 0
  unfolding common
  common_ne n = rw (ne_eqb x y n)

-- the bytes behind it differ
pub common-apart : (a b : List ℕ) → common a b < length a → common a b < length b → eqb (get_or a (common a b) 0) (get_or b (common a b) 0) ≡ false
common-apart [] b h k = absurd (omega arith)
common-apart (x ∷ a) [] h k = absurd (omega arith)
common-apart (x ∷ a) (y ∷ b) h k = by_bool (eqb x y)
    (λ t. let z = common_eq x y a b (eqb-true x y t) in rw z (common-apart a b (omega arith) (omega arith)))
    (λ f. rw (common_ne x y a b (eqb-false x y f)) f)

-- both have it
pub common-take : (a b : List ℕ) (n : ℕ) → n ≤ common a b → take n a ≡ take n b
common-take a b zero h = refl
common-take [] b (suc n) h = absurd (omega (arith, common_nil b))
common-take (x ∷ a) [] (suc n) h = absurd (omega (arith, (common-within (x ∷ a) []).1))
common-take (x ∷ a) (y ∷ b) (suc n) h = by_bool (eqb x y)
    (λ t. let e = eqb-true x y t in ap₂ (λ z l. z ∷ l) e (common-take a b n (omega (arith, common_eq x y a b e))))
    (λ f. absurd (omega (arith, common_ne x y a b (eqb-false x y f))))

pub common_get : (a b : List ℕ) (k : ℕ) → k < common a b → get_or a k 0 ≡ get_or b k 0
common_get a b k h =
    sym (get_or-take (suc k) a k 0 (omega arith)) ∙ ap (λ l. get_or l k 0) (common-take a b (suc k) (omega arith)) ∙ get_or-take (suc k) b k 0 (omega arith)

-- it takes in every byte up to the first difference
common_reach : (a b : List ℕ) (m : ℕ) → m ≤ length a → m ≤ length b → ((k : ℕ) → k < m → get_or a k 0 ≡ get_or b k 0) → m ≤ common a b
common_reach a b m ha hb e =
    by_bool (ltb (common a b) m)
    (λ t. let h = ltb-true (common a b) m t in absurd (eqb-false _ _ (common-apart a b (omega arith) (omega arith)) (e (common a b) h)))
    (λ f. ltb-false (common a b) m f)

-- n bytes at i, which are the same or not
module _ (n : ℕ) (a b : List ℕ) (i : ℕ) where
  pub common-past : i + n ≤ length a → i + n ≤ length b → i ≤ common a b → ((k : ℕ) → k < n → get_or a (i + k) 0 ≡ get_or b (i + k) 0) → i + n ≤ common a b
  common-past ha hb h e = common_reach a b (i + n) ha hb go
    where
      go : (k : ℕ) → k < i + n → get_or a k 0 ≡ get_or b k 0
      go k l = by_bool (ltb k i)
          (λ t. common_get a b k (omega (arith, ltb-true k i t, h)))
          (λ f. let z : i + (k - i) ≡ k = omega (arith, ltb-false k i f) in rw z at (e (k - i) (omega (arith, ltb-false k i f, l))))

  pub common-short : (((k : ℕ) → k < n → get_or a (i + k) 0 ≡ get_or b (i + k) 0) → ⊥) → common a b < i + n
  common-short d = by_bool (ltb (common a b) (i + n))
      (λ t. ltb-true (common a b) (i + n) t)
      (λ f. absurd (d (λ k l. common_get a b (i + k) (omega (arith, ltb-false (common a b) (i + n) f)))))

-- ---- equality and order by what is in common

pub same_length : (a b : List ℕ) → (length a ≡ length b → ⊥) → same a b ≡ false
same_length a b n = ne_same a b (λ e. n (ap length e))

pub same-common : (a b : List ℕ) → length a ≡ length b → eqb (common a b) (length a) ≡ same a b
unfolding same common
same-common [] [] e = refl
same-common [] (y ∷ b) e = absurd (omega arith)
same-common (x ∷ a) [] e = absurd (omega arith)
same-common (x ∷ a) (y ∷ b) e = go (eqb x y) (same-common a b (omega arith))
  where
    go : (t : Bool) → eqb (common a b) (length a) ≡ same a b → eqb (cond t (suc (common a b)) 0) (suc (length a)) ≡ (t && same a b)
    go true h = eqb-suc-suc (common a b) (length a) ∙ h
    go false h = ne_eqb 0 (suc (length a)) (λ (z : 0 ≡ suc (length a)). omega arith)

module _ (x y : ℕ) (a b : List ℕ) where
  before_eq : x ≡ y → before (x ∷ a) (y ∷ b) ≡ before a b
  unfolding before
  before_eq e = rw (eq-eqb x y e, le-ltb x y (omega arith))

  before_ne : (x ≡ y → ⊥) → before (x ∷ a) (y ∷ b) ≡ ltb x y
  unfolding before
  before_ne n = rw (ne_eqb x y n) (or-false (ltb x y))

-- both go on after the common start: the bytes there decide
pub before_in : (a b : List ℕ) → common a b < length b → common a b < length a → ltb (get_or a (common a b) 0) (get_or b (common a b) 0) ≡ before a b
before_in [] b hb ha = absurd (omega arith)
before_in (x ∷ a) [] hb ha = absurd (omega arith)
before_in (x ∷ a) (y ∷ b) hb ha =
    by_bool (eqb x y)
    (λ t. let e = eqb-true x y t in let k = common_eq x y a b e in
    ap (λ n. ltb (get_or (x ∷ a) n 0) (get_or (y ∷ b) n 0)) k ∙ before_in a b (omega arith) (omega arith) ∙ sym (before_eq x y a b e))
    (λ f. let n = eqb-false x y f in let k = common_ne x y a b n in
    ap (λ n. ltb (get_or (x ∷ a) n 0) (get_or (y ∷ b) n 0)) k ∙ sym (before_ne x y a b n))

-- a is used up and b goes on
pub before_end : (a b : List ℕ) → common a b < length b → length a ≤ common a b → before a b ≡ true
before_end [] [] hb ha = absurd (omega arith)
before_end [] (y ∷ b) hb ha = unfold before in refl
before_end (x ∷ a) [] hb ha = absurd (omega arith)
before_end (x ∷ a) (y ∷ b) hb ha =
    by_bool (eqb x y)
    (λ t. let e = eqb-true x y t in before_eq x y a b e ∙ before_end a b (omega (arith, common_eq x y a b e)) (omega (arith, common_eq x y a b e)))
    (λ f. absurd (omega (arith, common_ne x y a b (eqb-false x y f))))

-- b is used up
pub before-not : (a b : List ℕ) → length b ≤ common a b → before a b ≡ false
before-not [] [] hb = unfold before in refl
before-not [] (y ∷ b) hb = absurd (omega (arith, common_nil (y ∷ b)))
before-not (x ∷ a) [] hb = unfold before in refl
before-not (x ∷ a) (y ∷ b) hb =
    by_bool (eqb x y)
    (λ t. let e = eqb-true x y t in before_eq x y a b e ∙ before-not a b (omega (arith, common_eq x y a b e)))
    (λ f. absurd (omega (arith, common_ne x y a b (eqb-false x y f))))

-- one of them is used up: the lengths decide
pub before-over : (a b : List ℕ) → (length a ≤ common a b) ⊎ (length b ≤ common a b) → ltb (length a) (length b) ≡ before a b
before-over a b s =
    let w = common-within a b in
    by_bool (ltb (length a) (length b))
    (λ t. let l = ltb-true (length a) (length b) t in t ∙ sym (before_end a b (omega (arith, l, w.0)) (elim s [ inl h ↦ h | inr h ↦ omega (arith, h, l, w.0) ])))
    (λ f. let l = ltb-false (length a) (length b) f in f ∙ sym (before-not a b (elim s [ inl h ↦ omega (arith, h, l) | inr h ↦ h ])))
