-- The differences of two lists of entries: each stands there exactly in its own case, and no ID twice. Assumes nothing.
use Prim.Native.Nat.{ℕ}
use mathlib.Core.Path.{◌≡◌, refl, sym, ap, ◌∙◌}
use mathlib.Core.Logic.{◌⊎◌, inl, inr}
use mathlib.Core.List.{List, [], ◌∷◌, ◌++◌, Memᴰ}
use mathlib.Core.Bool.{false, not}
use lib.Dec.{T}
use Rattle.wire.specs.Bytes.{same}
use Rattle.wire.specs.Lists.{any, flattened}
use Rattle.wire.specs.Order.{rising_by, distinct_by}
use Rattle.wire.proofs.Bools.{by_bool, clash, and_l, and_r}
use Rattle.wire.proofs.ByteLaws.{same_true, eq_same}
use Rattle.wire.proofs.ListLaws.{flattened_out, flattened_in}
use Rattle.wire.proofs.SortLaws.{sort_in, sort_out, one_list, distinct-rising, distinct_append, distinct-one, key_apart}
use Rattle.bundle.specs.Entry.{Entry}
use Rattle.bundle.specs.Normal.{by_id}
use Rattle.bundle.specs.Differences.{Difference, only_left, only_right, other_image, met, with_id, left_against, right_against, by_difference_id, differences_of}

-- no entry of the list has the ID x
abbrev pub NoId : List ℕ → List Entry → Type 0
NoId x l = (e : Entry) → Memᴰ e l → e.id ≡ x → ⊥

-- what a difference of two lists says
pub data Case (es fs : List Entry) (d : Difference) : Type 0 where
  in_left : (e : Entry) → Memᴰ e es → NoId e.id fs → d ≡ only_left e → Case es fs d
  in_right : (f : Entry) → Memᴰ f fs → NoId f.id es → d ≡ only_right f → Case es fs d
  in_both : (e f : Entry) → Memᴰ e es → Memᴰ f fs → e.id ≡ f.id → (e.image ≡ f.image → ⊥) → d ≡ other_image e f → Case es fs d

-- ---- one ID in a list

-- what a list has with an ID: nothing, and no entry has it; or an entry that has it first
pub data Found (x : List ℕ) (es : List Entry) : Type 0 where
  absent : with_id x es ≡ [] → NoId x es → Found x es
  present : (e : Entry) (rest : List Entry) → with_id x es ≡ e ∷ rest → Memᴰ e es → e.id ≡ x → Found x es

pub found : (x : List ℕ) (es : List Entry) → Found x es
unfolding with_id
found x [] = absent refl (λ e m. absurd (mathlib.Core.List.Memᴰ.not-nil m))
found x (e ∷ es) =
    by_bool (same e.id x)
    (λ t. present e (with_id x es) (rw t) (mathlib.Core.List.Memᴰ.head refl) (same_true e.id x t))
    (λ u. behind u (found x es))
  where
    behind : same e.id x ≡ false → Found x es → Found x (e ∷ es)
    behind u (absent p n) = absent (rw u p) (λ f m q. elim (mathlib.Core.List.Memᴰ.cases_cons m) [ inl i ↦ clash _ (eq_same e.id x (ap by_id (sym i) ∙ q)) u | inr v ↦ n f v q ])
    behind u (present f rest p m q) = present f rest (rw u p) (mathlib.Core.List.Memᴰ.tail m) q

-- ---- the differences of one entry

-- none, or one, which is about the ID x
abbrev AtMostOne : List ℕ → List Difference → Type 0
AtMostOne x ds = (ds ≡ []) ⊎ ((d : Difference) × (d.id ≡ x) × (ds ≡ d ∷ []))

met-one : (e f : Entry) → AtMostOne e.id (met e f)
unfolding met
met-one e f = by_bool (same e.image f.image) (λ t. inl (rw t)) (λ u. inr (other_image e f, refl, rw u))

left_one : (e : Entry) (fs : List Entry) → AtMostOne e.id (left_against e fs)
unfolding left_against
left_one e [] = inr (only_left e, refl, refl)
left_one e (f ∷ fs) = met-one e f

right-one : (f : Entry) (es : List Entry) → AtMostOne f.id (right_against f es)
unfolding right_against
right-one f [] = inr (only_right f, refl, refl)
right-one f (e ∷ es) = inl refl

one-id : (x : List ℕ) (ds : List Difference) (d : Difference) → AtMostOne x ds → Memᴰ d ds → d.id ≡ x
one-id x ds d (inl e) m = absurd (mathlib.Core.List.Memᴰ.not-nil (rw e at m))
one-id x ds d (inr h) m =
    elim (mathlib.Core.List.Memᴰ.cases_cons (rw h.2 at m)) [ inl p ↦ ap by_difference_id p ∙ h.1 | inr u ↦ absurd (mathlib.Core.List.Memᴰ.not-nil u) ]

-- where the IDs of entries are distinct, those of their differences are
module _ (g : Entry → List Difference) (h : (e : Entry) → AtMostOne e.id (g e)) where
  ones-distinct : (es : List Entry) → T (distinct_by by_id es) → T (distinct_by by_difference_id (flattened g es))
  unfolding distinct_by flattened any
  ones-distinct [] t = tt
  ones-distinct (e ∷ es) t =
      distinct_append by_difference_id (g e) (flattened g es) (one-distinct (h e)) (ones-distinct es (and_r (not (any (λ f. same e.id f.id) es)) (distinct_by by_id es) t))
      (λ d c m n q.
      let o = flattened_out g es c n in
      key_apart by_id e es (and_l (not (any (λ f. same e.id f.id) es)) (distinct_by by_id es) t) o.0 o.1
      (sym (one-id e.id (g e) d (h e) m) ∙ q ∙ one-id o.0.id (g o.0) c (h o.0) o.2))
    where
      one-distinct : {ds : List Difference} → AtMostOne e.id ds → T (distinct_by by_difference_id ds)
      one-distinct (inl p) = rw p tt
      one-distinct (inr p) = rw p.2 tt

-- ---- all of them

module _ (es fs : List Entry) where
  abbrev of_left : Entry → List Difference
  of_left e = left_against e (with_id e.id fs)

  abbrev of_right : Entry → List Difference
  of_right f = right_against f (with_id f.id es)

  left_says : (e : Entry) (d : Difference) → Memᴰ e es → Memᴰ d (of_left e) → Case es fs d
  unfolding left_against met
  left_says e d m u = says (found e.id fs)
    where
      says : Found e.id fs → Case es fs d
      says (absent p n) = elim (mathlib.Core.List.Memᴰ.cases_cons (rw p at u)) [ inl q ↦ in_left e m n q | inr v ↦ absurd (mathlib.Core.List.Memᴰ.not-nil v) ]
      says (present f rest p k i) =
          let v : Memᴰ d (met e f) = rw p at u in
          by_bool (same e.image f.image)
          (λ t. absurd (mathlib.Core.List.Memᴰ.not-nil (rw t at v)))
          (λ z. elim (mathlib.Core.List.Memᴰ.cases_cons (rw z at v)) [
            | inl q ↦ in_both e f m k (sym i) (λ y. clash _ (eq_same e.image f.image y) z) q
            | inr w ↦ absurd (mathlib.Core.List.Memᴰ.not-nil w)
          ])

  right_says : (f : Entry) (d : Difference) → Memᴰ f fs → Memᴰ d (of_right f) → Case es fs d
  unfolding right_against
  right_says f d m u = says (found f.id es)
    where
      says : Found f.id es → Case es fs d
      says (absent p n) = elim (mathlib.Core.List.Memᴰ.cases_cons (rw p at u)) [ inl q ↦ in_right f m n q | inr v ↦ absurd (mathlib.Core.List.Memᴰ.not-nil v) ]
      says (present e rest p k i) = absurd (mathlib.Core.List.Memᴰ.not-nil (rw p at u))

  left_said : (e : Entry) → NoId e.id fs → Memᴰ (only_left e) (of_left e)
  unfolding left_against
  left_said e n = said (found e.id fs)
    where
      said : Found e.id fs → Memᴰ (only_left e) (of_left e)
      said (absent p k) = rw p (mathlib.Core.List.Memᴰ.head refl)
      said (present f rest p m i) = absurd (n f m i)

  right_said : (f : Entry) → NoId f.id es → Memᴰ (only_right f) (of_right f)
  unfolding right_against
  right_said f n = said (found f.id es)
    where
      said : Found f.id es → Memᴰ (only_right f) (of_right f)
      said (absent p k) = rw p (mathlib.Core.List.Memᴰ.head refl)
      said (present e rest p m i) = absurd (n e m i)

  both_said : T (distinct_by by_id fs) → (e f : Entry) → Memᴰ f fs → e.id ≡ f.id → (e.image ≡ f.image → ⊥) → Memᴰ (other_image e f) (of_left e)
  unfolding left_against met
  both_said t e f m i u = said (found e.id fs)
    where
      said : Found e.id fs → Memᴰ (other_image e f) (of_left e)
      said (absent p n) = absurd (n f m (sym i))
      said (present g rest p k q) =
          let o : g ≡ f = distinct-one by_id fs t g f k m (q ∙ i) in
          rw (p, o) (by_bool (same e.image f.image) (λ z. absurd (u (same_true e.image f.image z))) (λ z. rw z (mathlib.Core.List.Memᴰ.head refl)))

  abbrev unsorted : List Difference
  unsorted = flattened of_left es ++ flattened of_right fs

  all_says : (d : Difference) → Memᴰ d unsorted → Case es fs d
  all_says d m =
      elim (mathlib.Core.List.Memᴰ.append_cases (flattened of_left es) m) [
        | inl u ↦ let o = flattened_out of_left es d u in left_says o.0 d o.1 o.2
        | inr u ↦ let o = flattened_out of_right fs d u in right_says o.0 d o.1 o.2
      ]

  in_lefts : (e : Entry) (d : Difference) → Memᴰ e es → Memᴰ d (of_left e) → Memᴰ d unsorted
  in_lefts e d m u = mathlib.Core.List.Memᴰ.append_left (flattened of_right fs) (flattened_in of_left es e d m u)

  all_said : T (distinct_by by_id fs) → (d : Difference) → Case es fs d → Memᴰ d unsorted
  all_said t d (in_left e m n q) = in_lefts e d m (rw q (left_said e n))
  all_said t d (in_right f m n q) = mathlib.Core.List.Memᴰ.append_right (flattened of_left es) (flattened_in of_right fs f d m (rw q (right_said f n)))
  all_said t d (in_both e f m n i u q) = in_lefts e d m (rw q (both_said t e f n i u))

  right-alone : (f : Entry) (d : Difference) → Memᴰ d (of_right f) → NoId f.id es
  unfolding right_against
  right-alone f d u = alone (found f.id es)
    where
      alone : Found f.id es → NoId f.id es
      alone (absent p n) = n
      alone (present e rest p k i) = absurd (mathlib.Core.List.Memᴰ.not-nil (rw p at u))

  left_singles : (e : Entry) → AtMostOne e.id (of_left e)
  left_singles e = left_one e (with_id e.id fs)

  right_singles : (f : Entry) → AtMostOne f.id (of_right f)
  right_singles f = right-one f (with_id f.id es)

  all_distinct : T (distinct_by by_id es) → T (distinct_by by_id fs) → T (distinct_by by_difference_id unsorted)
  all_distinct s t =
      distinct_append by_difference_id (flattened of_left es) (flattened of_right fs) (ones-distinct of_left left_singles es s) (ones-distinct of_right right_singles fs t)
      (λ d c m n q.
      let o = flattened_out of_left es d m in
      let p = flattened_out of_right fs c n in
      right-alone p.0 c p.2 o.0 o.1
      (sym (one-id o.0.id (of_left o.0) d (left_singles o.0) o.2) ∙ q ∙ one-id p.0.id (of_right p.0) c (right_singles p.0) p.2))

-- a list of differences that has each exactly in its own case, in the order of the IDs
pub record Exact (es fs : List Entry) (ds : List Difference) : Type 0 where
  pub says : (d : Difference) → Memᴰ d ds → Case es fs d
  pub said : (d : Difference) → Case es fs d → Memᴰ d ds
  pub rising : T (rising_by by_difference_id ds)

pub exact_of : (es fs : List Entry) → T (distinct_by by_id es) → T (distinct_by by_id fs) → Exact es fs (differences_of es fs)
unfolding differences_of
exact_of es fs s t = record {
  says = λ d m. all_says es fs d (sort_out by_difference_id d (unsorted es fs) m);
  said = λ d c. sort_in by_difference_id d (unsorted es fs) (all_said es fs t d c);
  rising = distinct-rising by_difference_id (unsorted es fs) (all_distinct es fs s t);
}

-- there is one such list
pub exact_one : (es fs : List Entry) (ds cs : List Difference) → Exact es fs ds → Exact es fs cs → ds ≡ cs
exact_one es fs ds cs x y = one_list by_difference_id ds cs x.rising y.rising (λ d m. y.said d (x.says d m)) (λ d m. x.said d (y.says d m))

-- the cases of lists go by their members alone
pub case_members : (es fs ls rs : List Entry) → ((e : Entry) → Memᴰ e es → Memᴰ e ls) → ((e : Entry) → Memᴰ e ls → Memᴰ e es)
    → ((f : Entry) → Memᴰ f fs → Memᴰ f rs) → ((f : Entry) → Memᴰ f rs → Memᴰ f fs) → (d : Difference) → Case es fs d → Case ls rs d
case_members es fs ls rs p q r s d (in_left e m n i) = in_left e (p e m) (λ f k. n f (s f k)) i
case_members es fs ls rs p q r s d (in_right f m n i) = in_right f (r f m) (λ e k. n e (q e k)) i
case_members es fs ls rs p q r s d (in_both e f m n i u j) = in_both e f (p e m) (r f n) i u j

-- lists of the same members have the same differences
pub exact_members : (es fs ls rs : List Entry) (ds : List Difference) → ((e : Entry) → Memᴰ e es → Memᴰ e ls) → ((e : Entry) → Memᴰ e ls → Memᴰ e es)
    → ((f : Entry) → Memᴰ f fs → Memᴰ f rs) → ((f : Entry) → Memᴰ f rs → Memᴰ f fs) → Exact es fs ds → Exact ls rs ds
exact_members es fs ls rs ds p q r s x = record {
  says = λ d m. case_members es fs ls rs p q r s d (x.says d m);
  said = λ d c. x.said d (case_members ls rs es fs q p s r d c);
  rising = x.rising;
}
