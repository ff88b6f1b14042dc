-- Kinds compared as one: texts cut behind their kinds, and texts that need no cut. Assumes nothing.
use Prim.Native.Nat.{ℕ, suc, ◌≤◌}
use native.Mathlib.Omega.{arith}
use mathlib.Core.Path.{◌≡◌, refl, sym, ap, ap₂, ◌∙◌}
use mathlib.Core.Logic.{inl, inr}
use mathlib.Core.Bool.{Bool, true, false, not, ◌&&◌}
use mathlib.Core.List.{List, [], ◌∷◌, ◌++◌}
use lib.Dec.{T, eqb, eqb→eq}
use lib.ListN.{length, get_or, take, drop}
use lib.Seq.{length-take-le, take-take}
use borrow.Author.Tests.{eq-eqb}
use Rattle.wire.specs.Bytes.{bytes, same, common}
use Rattle.wire.specs.Lists.{every}
use Rattle.wire.proofs.Bools.{by_bool, clash, of_true, is_true, and_both, or_t}
use Rattle.wire.proofs.ByteLaws.{same_eq, same_refl}
use Rattle.entry_id.specs.Text.{split_on, other_than, not_colon}
use Rattle.entry_id.specs.Meaning.{fields_of}
use Rattle.entry_id.specs.Compare.{compared_kind}
use Rattle.entry_id.specs.Canonical.{head_of, kind_part, after_kind, within, compatible_spelled, mixed_spelled, of_one_kind}
use Rattle.entry_id.specs.Theorems.{hip_kind}
use Rattle.entry_id.specs.Scan.{Run}
use Rattle.entry_id.proofs.SignLaws.{agree_self}
use Rattle.entry_id.proofs.RunLaws.{part_start, cut-run}
use Rattle.entry_id.proofs.KindLaws.{ends, head_start, pieces_start, kind-cut, kind_whole, kind_plain, after_none, after_ends, after_more, kinds_apart}
use Rattle.entry_compare.specs.Meet.{KindEnds}
use Rattle.entry_compare.specs.Pairs.{ByHead, Unlike}

-- ---- where the first field ends

module _ (x : List ℕ) (d r : ℕ) (h : Run (other_than 45) x 0 d) (k : Run not_colon (take d x) 0 r) where
  first : (c : ℕ) (y : List ℕ) (n : ℕ) → Run (other_than c) y 0 n → get_or (split_on c y) 0 [] ≡ take n y
  first c y n s = ap (λ (l : List (List ℕ)). get_or l 0 []) (cut-run c y 0 n s) ∙ part_start y n

  below : r ≤ d
  below = omega (arith, k.high, length-take-le d x h.high)

  kind_is : take r x ≡ kind_part x
  unfolding head_of
  kind_is = sym (kind-cut x ∙ ap head_of (first 45 x d h) ∙ first 58 (take d x) r k ∙ take-take r d x below)

  pub kind_ends : KindEnds x r
  unfolding after_kind
  kind_ends = record {
    within = omega (arith, below, h.high);
    kind = kind_is;
    after = ap (λ n. drop n x) (sym (length-take-le r x (omega (arith, below, h.high))) ∙ ap length kind_is);
  }

-- ---- the kind that a kind is compared as

module _ (k : List ℕ) where
  pub is_four : same k (bytes "hipv4") ≡ true → k ≡ bytes "hipv4"
  is_four e = same_eq k (bytes "hipv4") (of_true _ e)

  pub as_spelled : same k (bytes "hipv4") ≡ false → k ≡ compared_kind k
  unfolding compared_kind
  as_spelled e = rw e

-- ---- texts cut

module _ (a b : List ℕ) (i j : ℕ) (p : KindEnds a i) (q : KindEnds b j) (one : Bool) (c : one ≡ same (compared_kind (take i a)) (compared_kind (take j b))) where
  one_is : one ≡ same (compared_kind (kind_part a)) (compared_kind (kind_part b))
  one_is = c ∙ ap₂ (λ k l. same (compared_kind k) (compared_kind l)) p.kind q.kind

  pub kinds_differ : one ≡ false → Unlike a b
  unfolding of_one_kind
  kinds_differ e = λ test. rw (sym one_is ∙ e)

  pub behind-kinds : one ≡ true → (x y : List ℕ) → x ≡ drop i a → y ≡ drop j b → (test : List ℕ → List ℕ → Bool) → test x y ≡ of_one_kind test a b
  unfolding of_one_kind
  behind-kinds e x y f g test = rw (sym one_is ∙ e) (ap₂ test (f ∙ p.after) (g ∙ q.after))

-- ---- texts as they are

same_start : (p a b : List ℕ) → same (p ++ a) (p ++ b) ≡ same a b
unfolding same
same_start [] a b = refl
same_start (y ∷ p) a b = rw (eq-eqb y y refl) (same_start p a b)

heads_start : (p a b : List ℕ) → T (every not_colon p) → same (head_of (p ++ a)) (head_of (p ++ b)) ≡ same (head_of a) (head_of b)
heads_start p a b t = ap₂ same (head_start p t a) (head_start p t b) ∙ same_start p (head_of a) (head_of b)

pub compatible_head : ByHead compatible_spelled
unfolding compatible_spelled
compatible_head = record {
  start = λ p a b t. ap₂ ◌&&◌ (heads_start p a b t) (ap₂ within (pieces_start p t b) (pieces_start p t a));
  apart = λ a b e. rw e;
}

pub mixed_head : ByHead mixed_spelled
unfolding mixed_spelled
mixed_head = record {
  start = λ p a b t. ap₂ (λ x y. x && not y) (heads_start p a b t) (agree_self p a b);
  apart = λ a b e. rw e;
}

pub same_head : ByHead same
same_head = record {
  start = λ p a b t. same_start p a b;
  apart = λ a b e.
      by_bool (same a b)
      (λ t. clash (same (head_of a) (head_of b)) (ap (λ z. same (head_of a) (head_of z)) (sym (same_eq a b (of_true _ t))) ∙ is_true _ (same_refl (head_of a))) e)
      (λ f. f);
}

-- what follows a kind does not go on with a 'v'
no_v : (x t : List ℕ) → (common (after_kind x) (118 ∷ t) ≡ 0) × (common (118 ∷ t) (after_kind x) ≡ 0)
unfolding common ends
no_v [] t = rw after_none (refl, refl)
no_v (y ∷ x) t =
    by_bool (ends y)
    (λ e. rw (after_ends y x e) (elim (or_t (eqb y 45) (eqb y 58) (of_true _ e)) [
      | inl u ↦ rw (eqb→eq y 45 u) (refl, refl)
      | inr u ↦ rw (eqb→eq y 58 u) (refl, refl)
    ]))
    (λ e. rw (after_more y x e) (no_v x t))

-- hip and hipv4 have three bytes in common
module _ (a b : List ℕ) where
  spelled : (k l : List ℕ) → kind_part a ≡ k → kind_part b ≡ l → common a b ≡ common (k ++ after_kind a) (l ++ after_kind b)
  spelled k l e f = ap₂ common (sym (kind_whole a) ∙ ap (λ z. z ++ after_kind a) e) (sym (kind_whole b) ∙ ap (λ z. z ++ after_kind b) f)

  hips : same (kind_part a) (kind_part b) ≡ false → T (hip_kind (kind_part a)) → T (hip_kind (kind_part b)) → common a b ≡ 3
  unfolding hip_kind common
  hips n s t = elim (or_t (same (kind_part a) (bytes "hip")) _ s) [
    | inl u ↦ elim (or_t (same (kind_part b) (bytes "hip")) _ t) [
      | inl v ↦ alike (bytes "hip") u v
      | inr v ↦ spelled (bytes "hip") (bytes "hipv4") (same_eq _ _ u) (same_eq _ _ v) ∙ ap (λ m. suc (suc (suc m))) (no_v a (52 ∷ after_kind b)).0
    ]
    | inr u ↦ elim (or_t (same (kind_part b) (bytes "hip")) _ t) [
      | inl v ↦ spelled (bytes "hipv4") (bytes "hip") (same_eq _ _ u) (same_eq _ _ v) ∙ ap (λ m. suc (suc (suc m))) (no_v b (52 ∷ after_kind a)).1
      | inr v ↦ alike (bytes "hipv4") u v
    ]
  ]
    where
      alike : (k : List ℕ) → T (same (kind_part a) k) → T (same (kind_part b) k) → common a b ≡ 3
      alike k u v = clash (same (kind_part a) (kind_part b)) (ap (λ z. same (kind_part a) z) (same_eq (kind_part b) k v) ∙ is_true _ u) n

  -- with a common start of any other length n, the test on the texts as they are is the test
  pub uncut : (n : ℕ) → n ≡ common a b → (n ≡ 3 → ⊥) → (test : List ℕ → List ℕ → Bool) → ByHead test → test a b ≡ of_one_kind test a b
  unfolding of_one_kind
  uncut n c far test h =
      by_bool (same (kind_part a) (kind_part b))
      (λ t.
      let e = same_eq (kind_part a) (kind_part b) (of_true _ t) in
      let k : same (compared_kind (kind_part a)) (compared_kind (kind_part b)) ≡ true = ap (λ z. same (compared_kind (kind_part a)) (compared_kind z)) (sym e) ∙ is_true _ (same_refl _) in
      rw k (ap₂ test (sym (kind_whole a)) (sym (ap (λ z. z ++ after_kind b) e ∙ kind_whole b)) ∙ h.start (kind_part a) (after_kind a) (after_kind b) (kind_plain a)))
      (λ f.
      let p : test a b ≡ false = h.apart a b (by_bool (same (head_of a) (head_of b)) (λ t. clash (same (kind_part a) (kind_part b)) (heads_kinds (same_eq _ _ (of_true _ t))) f) (λ g. g)) in
      by_bool (same (compared_kind (kind_part a)) (compared_kind (kind_part b)))
      (λ t.
      let q : (hip_kind (kind_part a) && hip_kind (kind_part b)) ≡ true = rw f at (sym (kinds_apart (kind_part a) (kind_part b)) ∙ t) in
      let (x, y) = and_both (hip_kind (kind_part a)) (hip_kind (kind_part b)) q in
      absurd (far (c ∙ hips f (of_true _ x) (of_true _ y))))
      (λ g. rw g p))
    where
      heads_kinds : head_of a ≡ head_of b → same (kind_part a) (kind_part b) ≡ true
      heads_kinds e = unfold kind_part fields_of head_of in ap (λ z. same (kind_part a) (get_or (split_on 45 z) 0 [])) (sym e) ∙ is_true _ (same_refl (kind_part a))
