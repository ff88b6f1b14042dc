-- Laws of texts: every byte, cutting and joining. Assumes nothing.
use Prim.Native.Nat.{ℕ}
use mathlib.Core.Path.{◌≡◌, refl, sym, ap, ◌∙◌, subst}
use mathlib.Core.Bool.{Bool, true, false, not, ◌||◌}
use mathlib.Core.List.{List, [], ◌∷◌, ◌++◌}
use lib.Dec.{T, eqb, eqb→eq, eqb_refl}
use Rattle.wire.specs.Lists.{any, every}
use Rattle.wire.proofs.Bools.{and_l, and_r, and_t, is_true, is_false, of_true, cond_ind, cond_case}
use Rattle.entry_id.specs.Text.{on_first, split_on, join_with, other_than}

-- ---- every, any

pub every_imp : {A : Type 0} (p q : A → Bool) → ((x : A) → T (p x) → T (q x)) → (l : List A) → T (every p l) → T (every q l)
unfolding every
every_imp p q h [] t = tt
every_imp p q h (x ∷ l) t = and_t (q x) (every q l) (h x (and_l (p x) (every p l) t)) (every_imp p q h l (and_r (p x) (every p l) t))

pub every_append : {A : Type 0} (p : A → Bool) (a b : List A) → T (every p a) → T (every p b) → T (every p (a ++ b))
unfolding every
every_append p [] b s t = t
every_append p (x ∷ a) b s t = and_t (p x) (every p (a ++ b)) (and_l (p x) (every p a) s) (every_append p a b (and_r (p x) (every p a) s) t)

pub every_start : {A : Type 0} (p : A → Bool) (a b : List A) → T (every p (a ++ b)) → T (every p a)
unfolding every
every_start p [] b t = tt
every_start p (x ∷ a) b t = and_t (p x) (every p a) (and_l (p x) (every p (a ++ b)) t) (every_start p a b (and_r (p x) (every p (a ++ b)) t))

pub any_append : {A : Type 0} (p : A → Bool) (a b : List A) → any p (a ++ b) ≡ (any p a || any p b)
unfolding any
any_append p [] b = refl
any_append p (x ∷ a) b = ap (λ c. p x || c) (any_append p a b) ∙ assoc (p x) (any p a) (any p b)
  where
    assoc : (a b c : Bool) → (a || (b || c)) ≡ ((a || b) || c)
    assoc true b c = refl
    assoc false b c = refl

-- ---- cutting and joining

module _ (c : ℕ) (p : ℕ → Bool) (no : T (p c) → ⊥) where
  pub misses : (x : ℕ) → T (p x) → eqb x c ≡ false
  misses x t = is_false (eqb x c) (λ e. no (subst (λ (y : ℕ). T (p y)) (eqb→eq x c e) t))

  pub avoids : (x : ℕ) → T (p x) → T (other_than c x)
  unfolding other_than
  avoids x t = of_true (not (eqb x c)) (ap not (misses x t))

  pub split_last : (f : List ℕ) → T (every p f) → split_on c f ≡ f ∷ []
  unfolding split_on every on_first
  split_last [] t = refl
  split_last (x ∷ f) t = rw (misses x (and_l (p x) (every p f) t), split_last f (and_r (p x) (every p f) t))

  pub split_skip : (f r : List ℕ) → T (every p f) → split_on c (f ++ c ∷ r) ≡ f ∷ split_on c r
  unfolding split_on every on_first
  split_skip [] r t = rw (is_true (eqb c c) (eqb_refl c))
  split_skip (x ∷ f) r t = rw (misses x (and_l (p x) (every p f) t), split_skip f r (and_r (p x) (every p f) t))

  pub split_start : (f r q : List ℕ) (qs : List (List ℕ)) → T (every p f) → split_on c r ≡ q ∷ qs → split_on c (f ++ r) ≡ (f ++ q) ∷ qs
  unfolding split_on every on_first
  split_start [] r q qs t e = e
  split_start (x ∷ f) r q qs t e = rw (misses x (and_l (p x) (every p f) t), split_start f r q qs (and_r (p x) (every p f) t) e)

  pub split_join : (f : List ℕ) (fs : List (List ℕ)) → T (every (every p) (f ∷ fs)) → split_on c (join_with c (f ∷ fs)) ≡ f ∷ fs
  unfolding join_with every
  split_join f [] t = split_last f (and_l (every p f) true t)
  split_join f (g ∷ fs) t =
      rw (split_skip f (join_with c (g ∷ fs)) (and_l (every p f) (every (every p) (g ∷ fs)) t))
      (ap (λ r. f ∷ r) (split_join g fs (and_r (every p f) (every (every p) (g ∷ fs)) t)))

  -- the last piece may hold c's
  pub split_join_last : (fs : List (List ℕ)) (q : List ℕ) → T (every (every p) fs) → split_on c (join_with c (fs ++ q ∷ [])) ≡ fs ++ split_on c q
  unfolding join_with every
  split_join_last [] q t = refl
  split_join_last (f ∷ []) q t = split_skip f q (and_l (every p f) true t)
  split_join_last (f ∷ g ∷ fs) q t =
      rw (split_skip f (join_with c (g ∷ fs ++ q ∷ [])) (and_l (every p f) (every (every p) (g ∷ fs)) t))
      (ap (λ r. f ∷ r) (split_join_last (g ∷ fs) q (and_r (every p f) (every (every p) (g ∷ fs)) t)))

first_some : (x : ℕ) (ps : List (List ℕ)) → (q : List ℕ) × (qs : List (List ℕ)) × (on_first x ps ≡ q ∷ qs)
unfolding on_first
first_some x [] = (x ∷ [], [], refl)
first_some x (p ∷ ps) = (x ∷ p, ps, refl)

pub split_some : (c : ℕ) (x : List ℕ) → (q : List ℕ) × (qs : List (List ℕ)) × (split_on c x ≡ q ∷ qs)
unfolding split_on on_first
split_some c [] = ([], [], refl)
split_some c (x ∷ xs) =
    cond_ind (λ r. (q : List ℕ) × (qs : List (List ℕ)) × (r ≡ q ∷ qs)) (eqb x c) ([] ∷ split_on c xs) (on_first x (split_on c xs))
    ([], split_on c xs, refl) (first_some x (split_on c xs))

join_on_first : (c x : ℕ) (ps : List (List ℕ)) → join_with c (on_first x ps) ≡ x ∷ join_with c ps
unfolding join_with on_first
join_on_first c x [] = refl
join_on_first c x (p ∷ []) = refl
join_on_first c x (p ∷ q ∷ ps) = refl

pub join_split : (c : ℕ) (x : List ℕ) → join_with c (split_on c x) ≡ x
unfolding split_on join_with
join_split c [] = refl
join_split c (x ∷ xs) =
    let (q, qs, e) = split_some c xs in
    cond_case (λ r. join_with c r ≡ x ∷ xs) (eqb x c) ([] ∷ split_on c xs) (on_first x (split_on c xs))
    (λ t. ap (λ ps. join_with c ([] ∷ ps)) e ∙ ap (λ ps. c ∷ join_with c ps) (sym e) ∙ ap (λ y. c ∷ y) (join_split c xs)
    ∙ ap (λ y. y ∷ xs) (sym (eqb→eq x c t)))
    (λ t. join_on_first c x (split_on c xs) ∙ ap (λ y. x ∷ y) (join_split c xs))
