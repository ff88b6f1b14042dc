-- The differences of two lists that are in the order of their IDs, found by a walk along both. Assumes nothing.
use Prim.Native.Nat.{ℕ}
use mathlib.Core.Path.{◌≡◌, refl, sym, ap, ◌∙◌, subst}
use mathlib.Core.Logic.{◌⊎◌, inl, inr}
use mathlib.Core.Bool.{true, false, cond}
use mathlib.Core.List.Memᴰ
use mathlib.Core.List.{List, [], ◌∷◌, ◌++◌, map, append-nil, Memᴰ}
use lib.Dec.{T}
use Rattle.wire.specs.Bytes.{same, before}
use Rattle.wire.specs.Order.{sort_by, rising_by, distinct_by}
use Rattle.wire.proofs.Bools.{by_bool, clash, is_true, is_false, of_true}
use Rattle.wire.proofs.ByteLaws.{same_true, eq_same, before_irrefl, before_trans, before-total}
use Rattle.wire.proofs.SortLaws.{apart, sort_in, sort_out, sort_rising, sort_distinct, distinct-rising, rising-distinct, rising_tail, rising-before, rising_cons}
use Rattle.bundle.specs.Entry.{Entry}
use Rattle.bundle.specs.Normal.{by_id}
use Rattle.bundle.specs.Differences.{Difference, only_left, only_right, other_image, met, by_difference_id, differences_of}
use Rattle.bundle.proofs.DifferenceLaws.{NoId, Case, in_left, in_right, in_both, Exact, exact_of, exact_members, exact_one}

-- of e and what is behind it on the left, against a list of the right; `rest` has those of what is behind e
unfoldable pub against : (List Entry → List Difference) → Entry → List Entry → List Difference
against rest e [] = only_left e ∷ rest []
against rest e (f ∷ fs) =
    cond (before e.id f.id) (only_left e ∷ rest (f ∷ fs))
    (cond (before f.id e.id) (only_right f ∷ against rest e fs) (met e f ++ rest fs))

-- whichever ID stands first goes alone; entries with one ID go together
unfoldable pub walk : List Entry → List Entry → List Difference
walk [] fs = map only_right fs
walk (e ∷ es) fs = against (walk es) e fs

-- ---- what stands behind an ID

abbrev Behind : List ℕ → List Entry → Type 0
Behind x l = (e : Entry) → Memᴰ e l → T (before x e.id)

behind_no : (x : List ℕ) (l : List Entry) → Behind x l → NoId x l
behind_no x l h e m q = apart x e.id (h e m) (sym q)

case_behind : (x : List ℕ) (l r : List Entry) (d : Difference) → Behind x l → Behind x r → Case l r d → T (before x d.id)
case_behind x l r d hl hr (in_left e m n q) = subst (λ k. T (before x k.id)) (sym q) (hl e m)
case_behind x l r d hl hr (in_right f m n q) = subst (λ k. T (before x k.id)) (sym q) (hr f m)
case_behind x l r d hl hr (in_both e f m n i u q) = subst (λ k. T (before x k.id)) (sym q) (hl e m)

no_cons : (x : List ℕ) (e : Entry) (l : List Entry) → (e.id ≡ x → ⊥) → NoId x l → NoId x (e ∷ l)
no_cons x e l h n f m q = elim (Memᴰ.cases_cons m) [ inl p ↦ h (ap by_id (sym p) ∙ q) | inr u ↦ n f u q ]

no_tail : (x : List ℕ) (e : Entry) (l : List Entry) → NoId x (e ∷ l) → NoId x l
no_tail x e l n f m q = n f (Memᴰ.tail m) q

-- ---- an entry that only the left has

module _ (e : Entry) (es r : List Entry) (ds : List Difference) (he : Behind e.id es) (hr : Behind e.id r) (x : Exact es r ds) where
  left_more : (d : Difference) → Case es r d → Case (e ∷ es) r d
  left_more d (in_left k m n q) = in_left k (Memᴰ.tail m) n q
  left_more d (in_right f m n q) = in_right f m (no_cons f.id e es (λ p. behind_no e.id r hr f m (sym p)) n) q
  left_more d (in_both k f m n i u q) = in_both k f (Memᴰ.tail m) n i u q

  left_less : (d : Difference) → Case (e ∷ es) r d → (d ≡ only_left e) ⊎ Case es r d
  left_less d (in_left k m n q) = elim (Memᴰ.cases_cons m) [ inl p ↦ inl (q ∙ ap only_left p) | inr u ↦ inr (in_left k u n q) ]
  left_less d (in_right f m n q) = inr (in_right f m (no_tail f.id e es n) q)
  left_less d (in_both k f m n i u q) =
      elim (Memᴰ.cases_cons m) [
        | inl p ↦ absurd (behind_no e.id r hr f n (sym i ∙ ap by_id p))
        | inr v ↦ inr (in_both k f v n i u q)
      ]

  exact_left : Exact (e ∷ es) r (only_left e ∷ ds)
  exact_left = record {
    says = λ d m. elim (Memᴰ.cases_cons m) [
      | inl p ↦ in_left e (Memᴰ.head refl) (behind_no e.id r hr) p
      | inr u ↦ left_more d (x.says d u)
    ];
    said = λ d c. elim (left_less d c) [ inl p ↦ Memᴰ.head p | inr k ↦ Memᴰ.tail (x.said d k) ];
    rising = rising_cons by_difference_id (only_left e) ds (λ d m. case_behind e.id es r d he hr (x.says d m)) x.rising;
  }

-- ---- an entry that only the right has

module _ (f : Entry) (fs l : List Entry) (ds : List Difference) (hf : Behind f.id fs) (hl : Behind f.id l) (x : Exact l fs ds) where
  right_more : (d : Difference) → Case l fs d → Case l (f ∷ fs) d
  right_more d (in_left e m n q) = in_left e m (no_cons e.id f fs (λ p. behind_no f.id l hl e m (sym p)) n) q
  right_more d (in_right k m n q) = in_right k (Memᴰ.tail m) n q
  right_more d (in_both e k m n i u q) = in_both e k m (Memᴰ.tail n) i u q

  right_less : (d : Difference) → Case l (f ∷ fs) d → (d ≡ only_right f) ⊎ Case l fs d
  right_less d (in_left e m n q) = inr (in_left e m (no_tail e.id f fs n) q)
  right_less d (in_right k m n q) = elim (Memᴰ.cases_cons m) [ inl p ↦ inl (q ∙ ap only_right p) | inr u ↦ inr (in_right k u n q) ]
  right_less d (in_both e k m n i u q) =
      elim (Memᴰ.cases_cons n) [
        | inl p ↦ absurd (behind_no f.id l hl e m (i ∙ ap by_id p))
        | inr v ↦ inr (in_both e k m v i u q)
      ]

  exact_right : Exact l (f ∷ fs) (only_right f ∷ ds)
  exact_right = record {
    says = λ d m. elim (Memᴰ.cases_cons m) [
      | inl p ↦ in_right f (Memᴰ.head refl) (behind_no f.id l hl) p
      | inr u ↦ right_more d (x.says d u)
    ];
    said = λ d c. elim (right_less d c) [ inl p ↦ Memᴰ.head p | inr k ↦ Memᴰ.tail (x.said d k) ];
    rising = rising_cons by_difference_id (only_right f) ds (λ d m. case_behind f.id l fs d hl hf (x.says d m)) x.rising;
  }

-- ---- an entry that both have

module _ (e f : Entry) (es fs : List Entry) (ds : List Difference) (i : e.id ≡ f.id) (he : Behind e.id es) (hf : Behind f.id fs) (x : Exact es fs ds) where
  hfe : Behind e.id fs
  hfe = subst (λ k. Behind k fs) (sym i) hf

  hef : Behind f.id es
  hef = subst (λ k. Behind k es) i he

  both_more : (d : Difference) → Case es fs d → Case (e ∷ es) (f ∷ fs) d
  both_more d (in_left k m n q) = in_left k (Memᴰ.tail m) (no_cons k.id f fs (λ p. behind_no f.id es hef k m (sym p)) n) q
  both_more d (in_right k m n q) = in_right k (Memᴰ.tail m) (no_cons k.id e es (λ p. behind_no e.id fs hfe k m (sym p)) n) q
  both_more d (in_both k g m n j u q) = in_both k g (Memᴰ.tail m) (Memᴰ.tail n) j u q

  both_less : (d : Difference) → Case (e ∷ es) (f ∷ fs) d → ((e.image ≡ f.image → ⊥) × (d ≡ other_image e f)) ⊎ Case es fs d
  both_less d (in_left k m n q) =
      elim (Memᴰ.cases_cons m) [
        | inl p ↦ absurd (n f (Memᴰ.head refl) (sym i ∙ ap by_id (sym p)))
        | inr v ↦ inr (in_left k v (no_tail k.id f fs n) q)
      ]
  both_less d (in_right k m n q) =
      elim (Memᴰ.cases_cons m) [
        | inl p ↦ absurd (n e (Memᴰ.head refl) (i ∙ ap by_id (sym p)))
        | inr v ↦ inr (in_right k v (no_tail k.id e es n) q)
      ]
  both_less d (in_both k g m n j u q) =
      elim (Memᴰ.cases_cons m) [
        | inl p ↦ elim (Memᴰ.cases_cons n) [
          | inl o ↦ inl (λ s. u (ap (λ a. a.image) p ∙ s ∙ ap (λ a. a.image) (sym o)), q ∙ ap (λ a. other_image a g) p ∙ ap (other_image e) o)
          | inr v ↦ absurd (behind_no e.id fs hfe g v (sym j ∙ ap by_id p))
        ]
        | inr v ↦ elim (Memᴰ.cases_cons n) [
          | inl o ↦ absurd (behind_no f.id es hef k v (j ∙ ap by_id o))
          | inr w ↦ inr (in_both k g v w j u q)
        ]
      ]

  exact_same : e.image ≡ f.image → Exact (e ∷ es) (f ∷ fs) ds
  exact_same s = record {
    says = λ d m. both_more d (x.says d m);
    said = λ d c. elim (both_less d c) [ inl p ↦ absurd (p.0 s) | inr k ↦ x.said d k ];
    rising = x.rising;
  }

  exact_other : (e.image ≡ f.image → ⊥) → Exact (e ∷ es) (f ∷ fs) (other_image e f ∷ ds)
  exact_other s = record {
    says = λ d m. elim (Memᴰ.cases_cons m) [
      | inl p ↦ in_both e f (Memᴰ.head refl) (Memᴰ.head refl) i s p
      | inr u ↦ both_more d (x.says d u)
    ];
    said = λ d c. elim (both_less d c) [ inl p ↦ Memᴰ.head p.1 | inr k ↦ Memᴰ.tail (x.said d k) ];
    rising = rising_cons by_difference_id (other_image e f) ds (λ d m. case_behind e.id es fs d he hfe (x.says d m)) x.rising;
  }

  exact_met : Exact (e ∷ es) (f ∷ fs) (met e f ++ ds)
  unfolding met
  exact_met =
      by_bool (same e.image f.image)
      (λ t. rw t (exact_same (same_true _ _ t)))
      (λ u. rw u (exact_other (λ q. clash _ (eq_same _ _ q) u)))

-- ---- two lists

no_case : (d : Difference) → Case [] [] d → ⊥
no_case d (in_left e m n q) = Memᴰ.not-nil m
no_case d (in_right f m n q) = Memᴰ.not-nil m
no_case d (in_both e f m n i u q) = Memᴰ.not-nil m

exact_none : Exact [] [] []
unfolding rising_by
exact_none = record { says = λ d m. absurd (Memᴰ.not-nil m); said = λ d c. absurd (no_case d c); rising = tt }

nothing_behind : (x : List ℕ) → Behind x []
nothing_behind x e m = absurd (Memᴰ.not-nil m)

head_behind : (e : Entry) (es : List Entry) → T (rising_by by_id (e ∷ es)) → Behind e.id es
head_behind e es t f m = rising-before by_id e f es t m

-- what stands behind the first of a list stands behind what is before it
all_behind : (x : List ℕ) (f : Entry) (fs : List Entry) → T (rising_by by_id (f ∷ fs)) → T (before x f.id) → Behind x (f ∷ fs)
all_behind x f fs t b g m =
    elim (Memᴰ.cases_cons m) [
      | inl p ↦ subst (λ k. T (before x k.id)) (sym p) b
      | inr u ↦ before_trans x f.id g.id b (rising-before by_id f g fs t u)
    ]

exact_rights : (fs : List Entry) → T (rising_by by_id fs) → Exact [] fs (map only_right fs)
exact_rights [] t = exact_none
exact_rights (f ∷ fs) t = exact_right f fs [] (map only_right fs) (head_behind f fs t) (nothing_behind f.id) (exact_rights fs (rising_tail by_id f fs t))

exact_against : (e : Entry) (es : List Entry) → T (rising_by by_id (e ∷ es)) → ((fs : List Entry) → T (rising_by by_id fs) → Exact es fs (walk es fs)) → (fs : List Entry) → T (rising_by by_id fs) → Exact (e ∷ es) fs (against (walk es) e fs)
unfolding against
exact_against e es s ih [] t = exact_left e es [] (walk es []) (head_behind e es s) (nothing_behind e.id) (ih [] t)
exact_against e es s ih (f ∷ fs) t =
    by_bool (before e.id f.id)
    (λ b. rw b (exact_left e es (f ∷ fs) (walk es (f ∷ fs)) (head_behind e es s) (all_behind e.id f fs t (of_true _ b)) (ih (f ∷ fs) t)))
    (λ u. by_bool (before f.id e.id)
    (λ b. rw (u, b) (exact_right f fs (e ∷ es) (against (walk es) e fs) (head_behind f fs t) (all_behind f.id e es s (of_true _ b)) (exact_against e es s ih fs (rising_tail by_id f fs t))))
    (λ v.
    let i : e.id ≡ f.id = before-total e.id f.id (λ p. clash _ (is_true _ p) u) (λ p. clash _ (is_true _ p) v) in
    rw (u, v) (exact_met e f es fs (walk es fs) i (head_behind e es s) (head_behind f fs t) (ih fs (rising_tail by_id f fs t)))))

pub exact : (l r : List Entry) → T (rising_by by_id l) → T (rising_by by_id r) → Exact l r (walk l r)
unfolding walk
exact [] r s t = exact_rights r t
exact (e ∷ es) r s t = exact_against e es s (λ fs u. exact es fs (rising_tail by_id e es s) u) r t

pub walk_rising : (l r : List Entry) → T (rising_by by_id l) → T (rising_by by_id r) → walk l r ≡ differences_of l r
walk_rising l r s t = exact_one l r (walk l r) (differences_of l r) (exact l r s t) (exact_of l r (distinct l s) (distinct r t))
  where
    distinct : (l : List Entry) → T (rising_by by_id l) → T (distinct_by by_id l)
    distinct l s = rising-distinct by_id l (rw (sort_rising by_id l s) s)

-- the differences of entries go by no order
pub differences_sorted : (es fs : List Entry) → T (distinct_by by_id es) → T (distinct_by by_id fs) → differences_of (sort_by by_id es) (sort_by by_id fs) ≡ differences_of es fs
differences_sorted es fs s t =
    exact_one es fs (differences_of (sort_by by_id es) (sort_by by_id fs)) (differences_of es fs)
    (exact_members (sort_by by_id es) (sort_by by_id fs) es fs (differences_of (sort_by by_id es) (sort_by by_id fs))
    (λ e. sort_out by_id e es) (λ e. sort_in by_id e es) (λ f. sort_out by_id f fs) (λ f. sort_in by_id f fs)
    (exact_of (sort_by by_id es) (sort_by by_id fs) (sort_distinct by_id es s) (sort_distinct by_id fs t)))
    (exact_of es fs s t)

pub walk_sorted : (es fs : List Entry) → T (distinct_by by_id es) → T (distinct_by by_id fs) → walk (sort_by by_id es) (sort_by by_id fs) ≡ differences_of es fs
walk_sorted es fs s t = walk_rising (sort_by by_id es) (sort_by by_id fs) (distinct-rising by_id es s) (distinct-rising by_id fs t) ∙ differences_sorted es fs s t

-- ---- one step of the walk

pub walk_left : (e f : Entry) (es fs : List Entry) → before e.id f.id ≡ true → walk (e ∷ es) (f ∷ fs) ≡ only_left e ∷ walk es (f ∷ fs)
unfolding walk against
walk_left e f es fs t = rw t

pub walk_right : (e f : Entry) (es fs : List Entry) → before f.id e.id ≡ true → walk (e ∷ es) (f ∷ fs) ≡ only_right f ∷ walk (e ∷ es) fs
unfolding walk against
walk_right e f es fs t =
    by_bool (before e.id f.id)
    (λ u. absurd (before_irrefl e.id (before_trans e.id f.id e.id (of_true _ u) (of_true _ t))))
    (λ u. rw (u, t))

pub walk_both : (e f : Entry) (es fs : List Entry) → e.id ≡ f.id → walk (e ∷ es) (f ∷ fs) ≡ met e f ++ walk es fs
unfolding walk against
walk_both e f es fs i =
    let n : before f.id f.id ≡ false = is_false (before f.id f.id) (before_irrefl f.id) in
    rw (i, n)

-- where one list is at its end
walk_lefts : (es : List Entry) → walk es [] ≡ map only_left es
unfolding walk against
walk_lefts [] = refl
walk_lefts (e ∷ es) = ap (λ l. only_left e ∷ l) (walk_lefts es)

pub walk_end : (es fs : List Entry) → (es ≡ []) ⊎ (fs ≡ []) → walk es fs ≡ map only_left es ++ map only_right fs
unfolding walk
walk_end es fs (inl p) = rw p
walk_end es fs (inr p) = rw p (walk_lefts es ∙ sym (append-nil (map only_left es)))
