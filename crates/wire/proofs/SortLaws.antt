-- Laws of lists in byte order of a key: what sorting keeps, that a set has one rising list, and when a sorted list rises. Assumes nothing.
use Prim.Native.Nat.{ℕ, zero, suc, ◌+◌, ◌<◌}
use native.Mathlib.Omega.{arith}
use mathlib.Core.Path.{◌≡◌, refl, sym, ap, ◌∙◌, subst}
use mathlib.Core.Logic.{◌⊎◌, inl, inr}
use mathlib.Core.Bool.{Bool, true, false, not, ◌&&◌, ◌||◌}
use mathlib.Core.List.Memᴰ
use mathlib.Core.List.{List, [], ◌∷◌, ◌++◌, map, Memᴰ}
use lib.ListN.{length, get_or, take, drop}
use lib.Seq.{drop-cons}
use lib.Dec.{T, T_not}
use Rattle.wire.specs.Bytes.{same, before}
use Rattle.wire.specs.Lists.{every, any, total}
use Rattle.wire.specs.Order.{insert_by, sort_by, rising_by, distinct_by}
use Rattle.wire.proofs.Bools.{by_bool, and_l, and_r, and_t, is_true, cond_ind, cond_case}
use Rattle.wire.specs.First.{first}
use Rattle.wire.proofs.FirstLaws.{first_yes, first_no}
use Rattle.wire.proofs.ListLaws.{member_at, at_member}
use Rattle.wire.proofs.ByteLaws.{same_refl, same_eq, before_irrefl, before_trans, before_other}

nor_l : (a b : Bool) → T (not (a || b)) → T (not a)
nor_l true b t = t
nor_l false b t = tt

nor_r : (a b : Bool) → T (not (a || b)) → T (not b)
nor_r true b t = absurd t
nor_r false b t = t

nor_t : (a b : Bool) → (T a → ⊥) → T (not b) → T (not (a || b))
nor_t true b s t = s tt
nor_t false b s t = t

pub apart : (a b : List ℕ) → T (before a b) → a ≡ b → ⊥
apart a b t e = before_irrefl b (subst (λ c. T (before c b)) e t)

or_swap : (a b c : Bool) → (a || (b || c)) ≡ (b || (a || c))
or_swap true true c = refl
or_swap true false c = refl
or_swap false b c = refl

and_swap : (a b c : Bool) → (a && (b && c)) ≡ (b && (a && c))
and_swap true b c = refl
and_swap false true c = refl
and_swap false false c = refl

module _ {A : Type 0} (key : A → List ℕ) where
  insert_out : (f g : A) (l : List A) → Memᴰ f (insert_by key g l) → (f ≡ g) ⊎ Memᴰ f l
  unfolding insert_by
  insert_out f g [] t = Memᴰ.cases_cons t
  insert_out f g (h ∷ l) t =
      cond_ind (λ r. Memᴰ f r → (f ≡ g) ⊎ Memᴰ f (h ∷ l)) (before (key g) (key h)) (g ∷ h ∷ l) (h ∷ insert_by key g l)
      (λ u. Memᴰ.cases_cons u)
      (λ u. elim (Memᴰ.cases_cons u) [
        | inl e ↦ inr (Memᴰ.head e)
        | inr w ↦ elim (insert_out f g l w) [ inl e ↦ inl e | inr z ↦ inr (Memᴰ.tail z) ]
      ])
      t

  insert_in : (f g : A) (l : List A) → (f ≡ g) ⊎ Memᴰ f l → Memᴰ f (insert_by key g l)
  unfolding insert_by
  insert_in f g [] t = elim t [ inl e ↦ Memᴰ.head e | inr u ↦ Memᴰ.tail u ]
  insert_in f g (h ∷ l) t =
      cond_ind (λ r. Memᴰ f r) (before (key g) (key h)) (g ∷ h ∷ l) (h ∷ insert_by key g l)
      (elim t [ inl e ↦ Memᴰ.head e | inr u ↦ Memᴰ.tail u ])
      (elim t [
        | inl e ↦ Memᴰ.tail (insert_in f g l (inl e))
        | inr u ↦ elim (Memᴰ.cases_cons u) [ inl e ↦ Memᴰ.head e | inr w ↦ Memᴰ.tail (insert_in f g l (inr w)) ]
      ])

  pub sort_out : (f : A) (l : List A) → Memᴰ f (sort_by key l) → Memᴰ f l
  unfolding sort_by
  sort_out f [] t = t
  sort_out f (g ∷ l) t = elim (insert_out f g (sort_by key l) t) [ inl e ↦ Memᴰ.head e | inr u ↦ Memᴰ.tail (sort_out f l u) ]

  pub sort_in : (f : A) (l : List A) → Memᴰ f l → Memᴰ f (sort_by key l)
  unfolding sort_by
  sort_in f [] t = t
  sort_in f (g ∷ l) t = elim (Memᴰ.cases_cons t) [
    | inl e ↦ insert_in f g (sort_by key l) (inl e)
    | inr u ↦ insert_in f g (sort_by key l) (inr (sort_in f l u))
  ]

  pub rising_tail : (f : A) (l : List A) → T (rising_by key (f ∷ l)) → T (rising_by key l)
  unfolding rising_by
  rising_tail f [] t = tt
  rising_tail f (g ∷ l) t = and_r (before (key f) (key g)) (rising_by key (g ∷ l)) t

  -- the first key stands before every other
  pub rising-before : (f g : A) (l : List A) → T (rising_by key (f ∷ l)) → Memᴰ g l → T (before (key f) (key g))
  unfolding rising_by
  rising-before f g [] t m = absurd (Memᴰ.not-nil m)
  rising-before f g (h ∷ l) t m =
      let b = and_l (before (key f) (key h)) (rising_by key (h ∷ l)) t in
      elim (Memᴰ.cases_cons m) [
        | inl e ↦ subst (λ k. T (before (key f) (key k))) (sym e) b
        | inr u ↦ before_trans (key f) (key h) (key g) b (rising-before h g l (and_r (before (key f) (key h)) (rising_by key (h ∷ l)) t) u)
      ]

  pub rising_cons : (f : A) (l : List A) → ((g : A) → Memᴰ g l → T (before (key f) (key g))) → T (rising_by key l) → T (rising_by key (f ∷ l))
  unfolding rising_by
  rising_cons f [] h t = tt
  rising_cons f (g ∷ l) h t = and_t (before (key f) (key g)) (rising_by key (g ∷ l)) (h g (Memᴰ.head refl)) t

  -- a key is there once
  pub one_key : (l : List A) → T (rising_by key l) → (f g : A) → Memᴰ f l → Memᴰ g l → key f ≡ key g → f ≡ g
  one_key [] t f g m n e = absurd (Memᴰ.not-nil m)
  one_key (h ∷ l) t f g m n e =
      elim (Memᴰ.cases_cons m) [
        | inl p ↦ elim (Memᴰ.cases_cons n) [
          | inl q ↦ p ∙ sym q
          | inr v ↦ absurd (apart (key h) (key g) (rising-before h g l t v) (ap key (sym p) ∙ e))
        ]
        | inr u ↦ elim (Memᴰ.cases_cons n) [
          | inl q ↦ absurd (apart (key h) (key f) (rising-before h f l t u) (ap key (sym q) ∙ sym e))
          | inr v ↦ one_key l (rising_tail h l t) f g u v e
        ]
      ]

  firsts : (x y : A) (a b : List A) → T (rising_by key (x ∷ a)) → T (rising_by key (y ∷ b)) → Memᴰ x (y ∷ b) → Memᴰ y (x ∷ a) → x ≡ y
  firsts x y a b s t m n =
      elim (Memᴰ.cases_cons m) [
        | inl e ↦ e
        | inr u ↦ elim (Memᴰ.cases_cons n) [
          | inl e ↦ sym e
          | inr v ↦ absurd (before_irrefl (key x) (before_trans (key x) (key y) (key x) (rising-before x y a s v) (rising-before y x b t u)))
        ]
      ]

  rest : (x y f : A) (a b : List A) → T (rising_by key (x ∷ a)) → x ≡ y → Memᴰ f a → Memᴰ f (y ∷ b) → Memᴰ f b
  rest x y f a b s e m n =
      elim (Memᴰ.cases_cons n) [
        | inl q ↦ absurd (apart (key x) (key f) (rising-before x f a s m) (ap key (e ∙ sym q)))
        | inr u ↦ u
      ]

  -- a set has one rising_by list
  pub one_list : (a b : List A) → T (rising_by key a) → T (rising_by key b) → ((f : A) → Memᴰ f a → Memᴰ f b) → ((f : A) → Memᴰ f b → Memᴰ f a) → a ≡ b
  one_list [] [] s t p q = refl
  one_list [] (y ∷ b) s t p q = absurd (Memᴰ.not-nil (q y (Memᴰ.head refl)))
  one_list (x ∷ a) [] s t p q = absurd (Memᴰ.not-nil (p x (Memᴰ.head refl)))
  one_list (x ∷ a) (y ∷ b) s t p q =
      let e = firsts x y a b s t (p x (Memᴰ.head refl)) (q y (Memᴰ.head refl)) in
      let r = one_list a b (rising_tail x a s) (rising_tail y b t)
      (λ f m. rest x y f a b s e m (p f (Memᴰ.tail m)))
      (λ f m. rest y x f b a t (sym e) m (q f (Memᴰ.tail m))) in
      cc

  pub key_apart : (f : A) (l : List A) → T (not (any (λ g. same (key f) (key g)) l)) → (g : A) → Memᴰ g l → key f ≡ key g → ⊥
  unfolding any
  key_apart f [] t g m e = Memᴰ.not-nil m
  key_apart f (h ∷ l) t g m e =
      elim (Memᴰ.cases_cons m) [
        | inl p ↦ T_not (same (key f) (key h)) (nor_l (same (key f) (key h)) (any (λ k. same (key f) (key k)) l) t)
            (subst (λ n. T (same (key f) n)) (e ∙ ap key p) (same_refl (key f)))
        | inr u ↦ key_apart f l (nor_r (same (key f) (key h)) (any (λ k. same (key f) (key k)) l) t) g u e
      ]

  pub apart-key : (f : A) (l : List A) → ((g : A) → Memᴰ g l → key f ≡ key g → ⊥) → T (not (any (λ g. same (key f) (key g)) l))
  unfolding any
  apart-key f [] h = tt
  apart-key f (g ∷ l) h =
      nor_t (same (key f) (key g)) (any (λ k. same (key f) (key k)) l)
      (λ t. h g (Memᴰ.head refl) (same_eq (key f) (key g) t)) (apart-key f l (λ k m. h k (Memᴰ.tail m)))

  -- a element of a new key goes in
  insert_rising : (f : A) (l : List A) → T (rising_by key l) → ((g : A) → Memᴰ g l → key f ≡ key g → ⊥) → T (rising_by key (insert_by key f l))
  unfolding insert_by rising_by
  insert_rising f [] t n = tt
  insert_rising f (h ∷ l) t n =
      cond_case (λ r. T (rising_by key r)) (before (key f) (key h)) (f ∷ h ∷ l) (h ∷ insert_by key f l)
      (λ u. and_t (before (key f) (key h)) (rising_by key (h ∷ l)) u t)
      (λ u. rising_cons h (insert_by key f l)
      (λ g m. elim (insert_out g f l m) [
        | inl e ↦ subst (λ k. T (before (key h) (key k))) (sym e) (before_other (key f) (key h) u (n h (Memᴰ.head refl)))
        | inr w ↦ rising-before h g l t w
      ])
      (insert_rising f l (rising_tail h l t) (λ g m. n g (Memᴰ.tail m))))

  -- a list with an element put in rises only where the list does and the key is new
  rising_insert : (f : A) (l : List A) → T (rising_by key (insert_by key f l)) → T (rising_by key l) × ((g : A) → Memᴰ g l → key f ≡ key g → ⊥)
  unfolding insert_by rising_by
  rising_insert f [] t = (tt, λ g m e. Memᴰ.not-nil m)
  rising_insert f (h ∷ l) t =
      cond_case (λ r. T (rising_by key r) → T (rising_by key (h ∷ l)) × ((g : A) → Memᴰ g (h ∷ l) → key f ≡ key g → ⊥))
      (before (key f) (key h)) (f ∷ h ∷ l) (h ∷ insert_by key f l)
      (λ u v. (rising_tail f (h ∷ l) v, λ g m e. apart (key f) (key g) (rising-before f g (h ∷ l) v m) e))
      (λ u v. let k = rising_insert f l (rising_tail h (insert_by key f l) v) in (
        rising_cons h l (λ g m. rising-before h g (insert_by key f l) v (insert_in g f l (inr m))) k.0,
        λ g m e. elim (Memᴰ.cases_cons m) [
          | inl p ↦ apart (key h) (key f) (rising-before h f (insert_by key f l) v (insert_in f f l (inl refl))) (ap (λ z. key z) (sym p) ∙ sym e)
          | inr w ↦ k.1 g w e
        ],
      ))
      t

  -- a key is there twice exactly where the sorted list does not rise
  pub distinct-rising : (l : List A) → T (distinct_by key l) → T (rising_by key (sort_by key l))
  unfolding distinct_by sort_by rising_by
  distinct-rising [] t = tt
  distinct-rising (f ∷ l) t =
      insert_rising f (sort_by key l) (distinct-rising l (and_r (not (any (λ g. same (key f) (key g)) l)) (distinct_by key l) t))
      (λ g m. key_apart f l (and_l (not (any (λ k. same (key f) (key k)) l)) (distinct_by key l) t) g (sort_out g l m))

  pub rising-distinct : (l : List A) → T (rising_by key (sort_by key l)) → T (distinct_by key l)
  unfolding distinct_by sort_by rising_by
  rising-distinct [] t = tt
  rising-distinct (f ∷ l) t =
      let h = rising_insert f (sort_by key l) t in
      and_t (not (any (λ g. same (key f) (key g)) l)) (distinct_by key l) (apart-key f l (λ g m. h.1 g (sort_in g l m))) (rising-distinct l h.0)

  insert_any : (p : A → Bool) (f : A) (l : List A) → any p (insert_by key f l) ≡ (p f || any p l)
  unfolding insert_by any
  insert_any p f [] = refl
  insert_any p f (h ∷ l) =
      cond_ind (λ r. any p r ≡ (p f || (p h || any p l))) (before (key f) (key h)) (f ∷ h ∷ l) (h ∷ insert_by key f l) refl
      (rw (insert_any p f l) (or_swap (p h) (p f) (any p l)))

  insert_every : (p : A → Bool) (f : A) (l : List A) → every p (insert_by key f l) ≡ (p f && every p l)
  unfolding insert_by every
  insert_every p f [] = refl
  insert_every p f (h ∷ l) =
      cond_ind (λ r. every p r ≡ (p f && (p h && every p l))) (before (key f) (key h)) (f ∷ h ∷ l) (h ∷ insert_by key f l) refl
      (rw (insert_every p f l) (and_swap (p h) (p f) (every p l)))

  insert_length : (f : A) (l : List A) → length (insert_by key f l) ≡ suc (length l)
  unfolding insert_by
  insert_length f [] = refl
  insert_length f (h ∷ l) =
      cond_ind (λ r. length r ≡ suc (suc (length l))) (before (key f) (key h)) (f ∷ h ∷ l) (h ∷ insert_by key f l) refl
      (ap suc (insert_length f l))

  pub sort_any : (p : A → Bool) (l : List A) → any p (sort_by key l) ≡ any p l
  unfolding sort_by any
  sort_any p [] = refl
  sort_any p (f ∷ l) = insert_any p f (sort_by key l) ∙ ap (λ b. p f || b) (sort_any p l)

  pub sort_every : (p : A → Bool) (l : List A) → every p (sort_by key l) ≡ every p l
  unfolding sort_by every
  sort_every p [] = refl
  sort_every p (f ∷ l) = insert_every p f (sort_by key l) ∙ ap (λ b. p f && b) (sort_every p l)

  pub sort_length : (l : List A) → length (sort_by key l) ≡ length l
  unfolding sort_by
  sort_length [] = refl
  sort_length (f ∷ l) = insert_length f (sort_by key l) ∙ ap suc (sort_length l)

  pub sort_rising : (fs : List A) → T (rising_by key fs) → sort_by key fs ≡ fs
  unfolding sort_by rising_by insert_by
  sort_rising [] t = refl
  sort_rising (f ∷ []) t = refl
  sort_rising (f ∷ g ∷ fs) t =
      rw (sort_rising (g ∷ fs) (and_r (before (key f) (key g)) (rising_by key (g ∷ fs)) t))
      (rw (is_true (before (key f) (key g)) (and_l (before (key f) (key g)) (rising_by key (g ∷ fs)) t)))

  insert_total : (w : A → ℕ) (f : A) (l : List A) → total w (insert_by key f l) ≡ w f + total w l
  unfolding insert_by total
  insert_total w f [] = refl
  insert_total w f (h ∷ l) =
      cond_ind (λ r. total w r ≡ w f + (w h + total w l)) (before (key f) (key h)) (f ∷ h ∷ l) (h ∷ insert_by key f l) refl
      (omega (arith, insert_total w f l))

  pub sort_total : (w : A → ℕ) (l : List A) → total w (sort_by key l) ≡ total w l
  unfolding sort_by total
  sort_total w [] = refl
  sort_total w (f ∷ l) = omega (arith, insert_total w f (sort_by key l), sort_total w l)

  -- ---- lists with no key twice

  pub distinct_at : (l : List A) (d : A) → T (distinct_by key l) → (j i : ℕ) → j < i → i < length l → key (get_or l j d) ≡ key (get_or l i d) → ⊥
  unfolding distinct_by
  distinct_at [] d t j i h b e = omega arith
  distinct_at (f ∷ l) d t zero zero h b e = omega arith
  distinct_at (f ∷ l) d t zero (suc i) h b e =
      key_apart f l (and_l (not (any (λ g. same (key f) (key g)) l)) (distinct_by key l) t) (get_or l i d) (at_member l d i (omega arith)) e
  distinct_at (f ∷ l) d t (suc j) zero h b e = omega arith
  distinct_at (f ∷ l) d t (suc j) (suc i) h b e =
      distinct_at l d (and_r (not (any (λ g. same (key f) (key g)) l)) (distinct_by key l) t) j i (omega arith) (omega arith) e

  pub distinct_of : (l : List A) (d : A) → ((j i : ℕ) → j < i → i < length l → key (get_or l j d) ≡ key (get_or l i d) → ⊥) → T (distinct_by key l)
  unfolding distinct_by
  distinct_of [] d h = tt
  distinct_of (f ∷ l) d h =
      and_t (not (any (λ g. same (key f) (key g)) l)) (distinct_by key l)
      (apart-key f l (λ g m e. let p = member_at l d g m in h zero (suc p.0) (omega arith) (omega (arith, p.1)) (e ∙ ap key p.2)))
      (distinct_of l d (λ j i a b. h (suc j) (suc i) (omega arith) (omega arith)))

  -- two such lists with no key in common, one behind the other
  pub distinct_append : (l m : List A) → T (distinct_by key l) → T (distinct_by key m) → ((f g : A) → Memᴰ f l → Memᴰ g m → key f ≡ key g → ⊥) → T (distinct_by key (l ++ m))
  unfolding distinct_by
  distinct_append [] m s t n = t
  distinct_append (f ∷ l) m s t n =
      let p = key_apart f l (and_l (not (any (λ g. same (key f) (key g)) l)) (distinct_by key l) s) in
      and_t (not (any (λ g. same (key f) (key g)) (l ++ m))) (distinct_by key (l ++ m))
      (apart-key f (l ++ m) (λ g u. elim (Memᴰ.append_cases l u) [ inl v ↦ p g v | inr v ↦ n f g (Memᴰ.head refl) v ]))
      (distinct_append l m (and_r (not (any (λ g. same (key f) (key g)) l)) (distinct_by key l) s) t (λ g h u. n g h (Memᴰ.tail u)))

  -- an element by its key
  pub distinct-one : (l : List A) → T (distinct_by key l) → (f g : A) → Memᴰ f l → Memᴰ g l → key f ≡ key g → f ≡ g
  distinct-one l t f g m n e = one_key (sort_by key l) (distinct-rising l t) f g (sort_in f l m) (sort_in g l n) e

  pub sort_again : (l : List A) → T (distinct_by key l) → sort_by key (sort_by key l) ≡ sort_by key l
  sort_again l t = sort_rising (sort_by key l) (distinct-rising l t)

  pub sort_distinct : (l : List A) → T (distinct_by key l) → T (distinct_by key (sort_by key l))
  sort_distinct l t = rising-distinct (sort_by key l) (rw (sort_again l t) (distinct-rising l t))

  -- the same members in one order, and only the same members
  pub sort_same : (l m : List A) → T (distinct_by key l) → T (distinct_by key m)
      → ((f : A) → Memᴰ f l → Memᴰ f m) → ((f : A) → Memᴰ f m → Memᴰ f l) → sort_by key l ≡ sort_by key m
  sort_same l m s t p q =
      one_list (sort_by key l) (sort_by key m) (distinct-rising l s) (distinct-rising m t)
      (λ f h. sort_in f m (p f (sort_out f l h)))
      (λ f h. sort_in f l (q f (sort_out f m h)))

  pub same_sort : (l m : List A) → sort_by key l ≡ sort_by key m → (f : A) → Memᴰ f l → Memᴰ f m
  same_sort l m e f h = sort_out f m (rw e at (sort_in f l h))

  -- ---- as code sorts

  insert_here : (f h : A) (l : List A) → before (key f) (key h) ≡ true → insert_by key f (h ∷ l) ≡ f ∷ h ∷ l
  unfolding insert_by
  insert_here f h l e = rw e

  insert_on : (f h : A) (l : List A) → before (key f) (key h) ≡ false → insert_by key f (h ∷ l) ≡ h ∷ insert_by key f l
  unfolding insert_by
  insert_on f h l e = rw e

  -- an element goes in before the first that it stands before
  unfoldable pub spot : A → A → List A → ℕ
  spot d f l = first (length l) (λ j. before (key f) (key (get_or l j d)))

  pub insert_at : (d f : A) (l : List A) → insert_by key f l ≡ take (spot d f l) l ++ (f ∷ drop (spot d f l) l)
  unfolding insert_by spot first
  insert_at d f [] = refl
  insert_at d f (h ∷ l) =
      let p : ℕ → Bool = λ j. before (key f) (key (get_or (h ∷ l) j d)) in
      by_bool (before (key f) (key h))
      (λ e. insert_here f h l e ∙ ap (λ k. take k (h ∷ l) ++ (f ∷ drop k (h ∷ l))) (sym (first_yes (length l) p e)))
      (λ e. insert_on f h l e ∙ ap (λ r. h ∷ r) (insert_at d f l) ∙ ap (λ k. take k (h ∷ l) ++ (f ∷ drop k (h ∷ l))) (sym (first_no (length l) p e)))

  -- the elements from i on in order, one more at the front
  pub sort_drop : (d : A) (l : List A) (i : ℕ) → i < length l → sort_by key (drop i l) ≡ insert_by key (get_or l i d) (sort_by key (drop (suc i) l))
  unfolding sort_by
  sort_drop d l i h = ap (sort_by key) (drop-cons l i d h)

-- elements in order of their images' keys are the images in order
module _ {A B : Type 0} (f : A → B) (key : B → List ℕ) where
  insert_map : (x : A) (l : List A) → map f (insert_by (λ a. key (f a)) x l) ≡ insert_by key (f x) (map f l)
  unfolding insert_by
  insert_map x [] = refl
  insert_map x (y ∷ l) =
      by_bool (before (key (f x)) (key (f y)))
      (λ t. ap (map f) (insert_here (λ a. key (f a)) x y l t) ∙ sym (insert_here key (f x) (f y) (map f l) t))
      (λ t. ap (map f) (insert_on (λ a. key (f a)) x y l t) ∙ ap (λ r. f y ∷ r) (insert_map x l) ∙ sym (insert_on key (f x) (f y) (map f l) t))

  pub sort_map : (l : List A) → map f (sort_by (λ a. key (f a)) l) ≡ sort_by key (map f l)
  unfolding sort_by
  sort_map [] = refl
  sort_map (x ∷ l) = insert_map x (sort_by (λ a. key (f a)) l) ∙ ap (insert_by key (f x)) (sort_map l)
