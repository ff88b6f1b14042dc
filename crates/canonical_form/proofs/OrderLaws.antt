-- Spans in order of their names. Assumes nothing.
use Rattle.std.proofs.Common.{◌≡◌, ℕ, zero, suc, ◌+◌, ◌<◌, ◌≤◌, Bool, true, false, not, T, eqb, List, [], ◌∷◌, ◌++◌, length, get_or, take, drop, set, sym, refl, ap, ap₂, ◌∙◌, subst, inl, inr, append-nil, add-one, arith, length-append, length-set, drop_of_length-le, length-take-le, take_all, drop-cons, take-suc, get_or-set_same, take-suc-set, take_at, drop-set-lt, drop_at, eq-eqb, ne_eqb, eqb-true}
use borrow.Author.Tests.{eqb-false}
use Rattle.std.proofs.Common.{None, Some, take-append-drop, length-drop, ◌-◌, Ordering, ltb, is_lt, is_eq, nat_cmp, ◌&&◌, lt-ltb, le-ltb, ltb-true, ltb-false}
use lib.Seq.{take-set-le, append_snoc}
use Rattle.wire.specs.Order.{insert_by, rising_by, sort_by, distinct_by}
use Rattle.wire.specs.Lists.{any, every}
use Rattle.wire.proofs.Bools.{cases, is_true, is_false, of_true, and_l, and_r, and_t, and_both, and_true, eqb_sym}
use Rattle.wire.proofs.ByteLaws.{before_irrefl, before_trans, before_in, before_end, before-not, same_eq, same-common, same_length, ne_same, common-within, common-apart}
use Rattle.wire.proofs.SortLaws.{distinct-rising, rising-distinct, sort_any, sort_every, sort_length}
use Rattle.wire.specs.Bytes.{before, same, common}
use Rattle.canonical_form.specs.Spans.{good, name_of, placed, new_first, PlacedIs}
use Rattle.canonical_form.specs.declared.features.Span.{Span}
use Rattle.canonical_form.proofs.SpanLaws.{every-right}

pub every_at : {A : Type 0} (p : A → Bool) (l : List A) (i : ℕ) (d : A) → i < length l → T (every p l) → T (p (get_or l i d))
unfolding every
every_at p [] i d h t = absurd (omega arith)
every_at p (a ∷ l) zero d h t = and_l (p a) (every p l) t
every_at p (a ∷ l) (suc i) d h t = every_at p l i d (omega arith) (and_r (p a) (every p l) t)

every_set : {A : Type 0} (p : A → Bool) (l : List A) (i : ℕ) (a : A) → T (every p l) → T (p a) → T (every p (set l i a))
unfolding every
every_set p [] i a t u = t
every_set p (b ∷ l) zero a t u = and_t (p a) (every p l) u (and_r (p b) (every p l) t)
every_set p (b ∷ l) (suc i) a t u = and_t (p b) (every p (set l i a)) (and_l (p b) (every p l) t) (every_set p l i a (and_r (p b) (every p l) t) u)

-- ---- two names by their common start

common_self : (a : List ℕ) → common a a ≡ length a
unfolding common
common_self [] = refl
common_self (y ∷ a) = rw (eq-eqb y y refl) (ap suc (common_self a))

pub same_not : (a b : List ℕ) → common a b < length b → same a b ≡ false
same_not a b h = ne_same a b (λ e. let k : common a b ≡ length b = ap (λ c. common c b) e ∙ common_self b in omega arith)

pub same_whole : (a b : List ℕ) → length b ≤ common a b → eqb (common a b) (length a) ≡ same a b
same_whole a b h = elim (cases (eqb (length a) (length b))) [
  | inl e ↦ same-common a b (eqb-true (length a) (length b) e)
  | inr e ↦
      let n = eqb-false (length a) (length b) e in
      let k = (common-within a b).1 in
      ne_eqb (common a b) (length a) (λ q. n (omega arith)) ∙ sym (same_length a b n)
]

lt_cmp : (a b : ℕ) → is_lt (nat_cmp a b) ≡ ltb a b
lt_cmp a b = elim (cases (ltb a b)) [
  | inl e ↦ rw e
  | inr e ↦ elim (cases (eqb a b)) [
    | inl f ↦ rw (e, f)
    | inr f ↦ rw (e, f)
  ]
]

eq_cmp : (a b : ℕ) → is_eq (nat_cmp a b) ≡ eqb a b
eq_cmp a b = elim (cases (ltb a b)) [
  | inl e ↦ let h = ltb-true a b e in rw (e, ne_eqb a b (λ z. omega arith))
  | inr e ↦ elim (cases (eqb a b)) [
    | inl f ↦ rw (e, f)
    | inr f ↦ rw (e, f)
  ]
]

module _ (a b : List ℕ) (n : ℕ) (c : n ≡ common a b) (r : Ordering) where
  -- both go on behind their common start
  pub compared_inside : (ltb n (length a) && ltb n (length b)) ≡ true → r ≡ nat_cmp (get_or a n 0) (get_or b n 0) → (is_lt r ≡ before a b) × (is_eq r ≡ same a b)
  compared_inside t e =
      let (p, q) = and_both _ _ t in
      let h = ltb-true n (length a) p in
      let k = ltb-true n (length b) q in (
        ap is_lt e ∙ lt_cmp _ _ ∙ ap (λ k. ltb (get_or a k 0) (get_or b k 0)) c ∙ before_in a b (omega (arith, c)) (omega (arith, c)),
        ap is_eq e ∙ eq_cmp _ _ ∙ ap (λ k. eqb (get_or a k 0) (get_or b k 0)) c ∙ common-apart a b (omega (arith, c)) (omega (arith, c)) ∙ sym (same_not a b (omega (arith, c))),
      )

  -- one of them does not
  pub compared_ends : (ltb n (length a) && ltb n (length b)) ≡ false → r ≡ nat_cmp (length a) (length b) → (is_lt r ≡ before a b) × (is_eq r ≡ same a b)
  compared_ends t e =
      let w = common-within a b in
      let (p, q) = lengths in
      (ap is_lt e ∙ lt_cmp _ _ ∙ p, ap is_eq e ∙ eq_cmp _ _ ∙ q)
    where
      lengths : (ltb (length a) (length b) ≡ before a b) × (eqb (length a) (length b) ≡ same a b)
      lengths = elim (cases (ltb n (length b))) [
        | inl k ↦
            let h = ltb-true n (length b) k in
            let l : length a ≤ n = elim (cases (ltb n (length a))) [ inl u ↦ let z : ◌≡◌ {A = Bool} true false = rw (u, k) at t in absurd (subst T z tt) | inr u ↦ ltb-false n (length a) u ] in (
              lt-ltb (length a) (length b) (omega arith) ∙ sym (before_end a b (omega (arith, c)) (omega (arith, c))),
              ne_eqb (length a) (length b) (λ z. omega arith) ∙ sym (same_not a b (omega (arith, c))),
            )
        | inr k ↦
            let h = ltb-false n (length b) k in
            let w = common-within a b in
            let m : common a b ≡ length b = omega (arith, c, w.1) in (
              le-ltb (length a) (length b) (omega (arith, c, w.0)) ∙ sym (before-not a b (omega (arith, c))),
              rw (sym m) (eqb_sym (length a) (common a b)) ∙ same_whole a b (omega (arith, c)),
            )
      ]

-- ---- names that are apart

module _ {A : Type 0} (key : A → List ℕ) where
  pub distinct_is : (l : List A) → distinct_by key l ≡ rising_by key (sort_by key l)
  distinct_is l = elim (cases (distinct_by key l)) [
    | inl e ↦ e ∙ sym (is_true (rising_by key (sort_by key l)) (distinct-rising key l (of_true (distinct_by key l) e)))
    | inr e ↦ e ∙ sym (is_false (rising_by key (sort_by key l)) (λ t. subst T e (rising-distinct key l t)))
  ]

  pub rising_rest : (f : A) (l : List A) → T (rising_by key (f ∷ l)) → T (rising_by key l)
  unfolding rising_by
  rising_rest f [] t = tt
  rising_rest f (g ∷ l) t = and_r (before (key f) (key g)) (rising_by key (g ∷ l)) t

  not_same : (a b : List ℕ) → T (before a b) → same a b ≡ false
  not_same a b t = is_false (same a b) (λ s. before_irrefl b (subst (λ c. T (before c b)) (same_eq a b s) t))

  -- a key before the first of a rising list is not in it
  pub before_all : (f g : A) (l : List A) → T (rising_by key (g ∷ l)) → T (before (key f) (key g)) → any (λ h. same (key f) (key h)) (g ∷ l) ≡ false
  unfolding any rising_by
  before_all f g [] t b = rw (not_same (key f) (key g) b)
  before_all f g (h ∷ l) t b =
      rw (not_same (key f) (key g) b)
      (before_all f h l (and_r (before (key g) (key h)) (rising_by key (h ∷ l)) t) (before_trans (key f) (key g) (key h) b (and_l (before (key g) (key h)) (rising_by key (h ∷ l)) t)))

  -- one that is there makes the whole list not apart
  pub distinct-drop : (k : ℕ) (l : List A) → T (distinct_by key l) → T (distinct_by key (drop k l))
  unfolding distinct_by
  distinct-drop zero l t = t
  distinct-drop (suc k) [] t = tt
  distinct-drop (suc k) (f ∷ l) t = distinct-drop k l (and_r (not (any (λ g. same (key f) (key g)) l)) (distinct_by key l) t)

-- ---- the span at i, which has still to be put in its place, and those behind it

module _ (x : List ℕ) (t : List Span) (i : ℕ) (d : Span) where
  abbrev f : Span
  f = get_or t i d

  abbrev g : Span
  g = get_or t (i + 1) d

  abbrev rest : List Span
  rest = drop (i + 2) t

  -- there is one behind it
  module _ (h : i + 1 < length t) where
    behind : drop (suc i) t ≡ g ∷ rest
    behind =
        let e : suc (i + 1) ≡ i + 2 = omega arith in
        ap (λ k. drop k t) (sym (add-one i)) ∙ drop-cons t (i + 1) d h ∙ ap (λ k. g ∷ drop k t) e

    two : drop i t ≡ f ∷ g ∷ rest
    two = drop-cons t i d (omega arith) ∙ ap (λ l. f ∷ l) behind

    pub placed_here : before (name_of x f) (name_of x g) ≡ true → drop i t ≡ placed x (drop i t)
    unfolding placed insert_by
    placed_here e = rw (two, e)

    pub new_before : T (rising_by (name_of x) (drop (suc i) t)) → before (name_of x f) (name_of x g) ≡ true → true ≡ new_first x (drop i t)
    unfolding new_first
    new_before r e =
        let k : T (rising_by (name_of x) (g ∷ rest)) = rw behind at r in
        rw two (ap not (sym (before_all (name_of x) f g rest k (of_true _ e))))

    pub new_same : same (name_of x f) (name_of x g) ≡ true → false ≡ new_first x (drop i t)
    unfolding new_first any
    new_same e = rw (two, e)

    -- the two exchanged
    abbrev next : List Span
    next = set (set t i g) (i + 1) f

    next_take : take (i + 1) next ≡ take i t ++ g ∷ []
    next_take = take-set-le (i + 1) (set t i g) (i + 1) f (omega arith) ∙ ap (λ k. take k (set t i g)) (add-one i) ∙ take-suc-set t i g (omega arith)

    next_rest : drop (suc (i + 1)) next ≡ rest
    next_rest =
        let e : suc (i + 1) ≡ i + 2 = omega arith in
        drop-set-lt (suc (i + 1)) (set t i g) (i + 1) f (omega arith) ∙ drop-set-lt (suc (i + 1)) t i g (omega arith) ∙ ap (λ k. drop k t) e

    next_drop : drop (i + 1) next ≡ f ∷ rest
    next_drop =
        let l : i + 1 < length (set t i g) = omega (arith, length-set t i g) in
        drop-cons next (i + 1) d (omega (arith, l, length-set (set t i g) (i + 1) f)) ∙ ap₂ (λ a r. a ∷ r) (get_or-set_same (set t i g) (i + 1) f d l) next_rest

    pub placed_step : before (name_of x f) (name_of x g) ≡ false → take (i + 1) next ++ placed x (drop (i + 1) next) ≡ take i t ++ placed x (drop i t)
    unfolding placed insert_by
    placed_step e = rw (next_drop, two, e) (ap (λ l. l ++ insert_by (name_of x) f rest) next_take ∙ append_snoc (take i t) g (insert_by (name_of x) f rest))

    pub new_step : same (name_of x f) (name_of x g) ≡ false → new_first x (drop (i + 1) next) ≡ new_first x (drop i t)
    unfolding new_first any
    new_step e = rw (next_drop, two, e)

    pub rising_step : T (rising_by (name_of x) (drop (suc i) t)) → T (rising_by (name_of x) (drop (suc (i + 1)) next))
    rising_step r =
        let k : T (rising_by (name_of x) (g ∷ rest)) = rw behind at r in
        rw next_rest (rising_rest (name_of x) g rest k)

    pub good_step : T (every (good x) t) → T (every (good x) next)
    good_step a = every_set (good x) (set t i g) (i + 1) f (every_set (good x) t i g a (every_at (good x) t (i + 1) d h a)) (every_at (good x) t i d (omega arith) a)

  -- it is the last
  module _ (h : i < length t) (k : length t ≤ i + 1) where
    one : drop i t ≡ f ∷ []
    one = drop-cons t i d h ∙ ap (λ l. f ∷ l) (drop_of_length-le t {i = suc i} (omega arith))

    pub placed_last : drop i t ≡ placed x (drop i t)
    unfolding placed insert_by
    placed_last = rw one

    pub new_last : true ≡ new_first x (drop i t)
    unfolding new_first any
    new_last = rw one

-- ---- spans of which those from k + 1 on are in order: s, before that

module _ (x : List ℕ) (s t : List Span) (k : ℕ) (d : Span) (h : k < length s) (e : t ≡ take (suc k) s ++ sort_by (name_of x) (drop (suc k) s)) where
  abbrev v : Span
  v = get_or s k d

  abbrev sorted : List Span
  sorted = sort_by (name_of x) (drop (suc k) s)

  whole : t ≡ take k s ++ v ∷ sorted
  whole = e ∙ ap (λ l. l ++ sorted) (take-suc s k d h) ∙ append_snoc (take k s) v sorted

  start_is : take k t ≡ take k s
  start_is = ap (take k) whole ∙ take_at (take k s) (v ∷ sorted) k (length-take-le k s (omega arith))

  end_is : drop k t ≡ v ∷ sorted
  end_is = ap (drop k) whole ∙ drop_at (take k s) (v ∷ sorted) k (length-take-le k s (omega arith))

  long : length t ≡ length s
  long = omega (arith, ap length e ∙ length-append (take (suc k) s) sorted, sort_length (name_of x) (drop (suc k) s), length-drop (suc k) s, length-take-le (suc k) s (omega arith))

  -- those from k on, and what is behind them
  abbrev part : List Span
  part = take (length t - k) (drop k t)

  part_is : part ≡ v ∷ sorted
  part_is = take_all (length t - k) (drop k t) (omega (arith, length-drop k t)) ∙ end_is

  none_behind : drop (length t - k) (drop k t) ≡ []
  none_behind = drop_of_length-le (drop k t) {i = length t - k} (omega (arith, length-drop k t))

  good_end : T (every (good x) s) → T (every (good x) (v ∷ sorted))
  unfolding every
  good_end g =
      let b : T (every (good x) (drop (suc k) s)) = every-right (good x) (take (suc k) s) (drop (suc k) s) (rw take-append-drop g) in
      and_t (good x v) (every (good x) sorted) (every_at (good x) s k d h g) (rw (sort_every (name_of x) (good x) (drop (suc k) s)) b)

  pub part_may : T (every (good x) s) → T (distinct_by (name_of x) (drop (suc k) s)) → (0 < length part) × T (every (good x) part) × T (rising_by (name_of x) (drop 1 part))
  part_may g a = rw part_is (omega arith, good_end g, distinct-rising (name_of x) (drop (suc k) s) a)

  -- the next name is new where the names from it on are apart
  part_new : T (distinct_by (name_of x) (drop (suc k) s)) → new_first x part ≡ distinct_by (name_of x) (drop k s)
  unfolding new_first distinct_by
  part_new a =
      rw (part_is, sort_any (name_of x) (λ g. same (name_of x v) (name_of x g)) (drop (suc k) s), drop-cons s k d h, is_true (distinct_by (name_of x) (drop (suc k) s)) a)
      (sym (and_true (not (any (λ g. same (name_of x v) (name_of x g)) (drop (suc k) s)))))

  part_sorted : placed x part ≡ sort_by (name_of x) (drop k s)
  unfolding placed sort_by
  part_sorted = rw (part_is, ap (sort_by (name_of x)) (drop-cons s k d h))

  -- the one at k is put in its place, which makes u of those from k on
  module _ (u : List Span) (a : T (distinct_by (name_of x) (drop (suc k) s))) where
    abbrev after : List Span
    after = take k t ++ (u ++ drop (length t - k) (drop k t))

    after_is : after ≡ take k t ++ u
    after_is = ap (λ r. take k t ++ (u ++ r)) none_behind ∙ ap (λ r. take k t ++ r) (append-nil u)

    pub place_none : PlacedIs x part None u → false ≡ distinct_by (name_of x) s
    place_none p =
        let f : distinct_by (name_of x) (drop k s) ≡ false = sym (p.fresh ∙ part_new a) in
        sym (is_false (distinct_by (name_of x) s) (λ z. subst T f (distinct-drop (name_of x) k s z)))

    pub place_some : (still : Bool) → PlacedIs x part (Some still) u
        → (after ≡ take k s ++ sort_by (name_of x) (drop k s)) × T (distinct_by (name_of x) (drop k s)) × (still ≡ true → after ≡ t)
    place_some still p = (
      after_is ∙ ap₂ ◌++◌ start_is (p.made.0 ∙ part_sorted),
      of_true _ (sym (p.fresh ∙ part_new a)),
      λ z. after_is ∙ ap (λ r. take k t ++ r) (p.made.1 z ∙ part_is ∙ sym end_is) ∙ take-append-drop k t,
    )

pub distinct_none : {A : Type 0} (key : A → List ℕ) (t : List A) → T (distinct_by key (drop (length t) t))
unfolding distinct_by
distinct_none key t = rw (drop_of_length-le t {i = length t} (omega arith)) tt

-- all in order, and none yet
pub sort_none : (x : List ℕ) (t : List Span) → t ≡ take (length t) t ++ sort_by (name_of x) (drop (length t) t)
unfolding sort_by
sort_none x t =
    let l : length t ≤ length t = omega arith in
    rw (drop_of_length-le t l, take_all (length t) t l) (sym (append-nil t))
