-- The differences found so far, as a walk along two lists of entries has them. Assumes nothing.
use Prim.Native.Nat.{ℕ, zero, suc, ◌+◌, ◌<◌, ◌≤◌}
use native.Mathlib.Omega.{arith}
use mathlib.Core.Path.{◌≡◌, refl, sym, ap, ap₂, ◌∙◌}
use mathlib.Core.Logic.{◌⊎◌, inl, inr}
use mathlib.Core.Bool.{true, false}
use mathlib.Core.List.Memᴰ
use mathlib.Core.List.{List, [], ◌∷◌, ◌++◌, map, map-append, append_assoc, Memᴰ}
use lib.ListN.{length, get_or, drop, length-append, length-map, length-drop}
use borrow.Author.Tests.{eq-eqb, eqb-true}
use Rattle.std.proofs.Common.{Option, None, Some, cond}
use Rattle.wire.specs.Bytes.{same, before, common}
use Rattle.wire.proofs.Bools.{by_bool, clash, is_true}
use Rattle.wire.proofs.ByteLaws.{same_true, eq_same, same-common, before_other}
use Rattle.wire.proofs.ListLaws.{at_member}
use Rattle.bundle.specs.Entry.{Entry}
use Rattle.bundle.specs.Differences.{Difference, only_left, only_right, met}
use Rattle.bundle.proofs.WalkLaws.{walk, walk_left, walk_right, walk_both, walk_end}
use Rattle.normal_form.specs.Code.{no_held, value, values, Short}
use Rattle.normal_form.specs.declared.Entry.{Entry as Held}
use Rattle.normal_form.proofs.EncodeLaws.{values_at, values_end}
use Rattle.bundle_compare.specs.Code.{shown, shown_all, ShortIds}
use Rattle.bundle_compare.specs.declared.find.Difference.{Difference as Found}
use Rattle.bundle_compare.specs.declared.find.Difference.TheVariants.{OnlyLeft, OnlyRight, Images}

-- ---- two IDs, and two images

pub order_other : (x y : List ℕ) → same x y ≡ false → before x y ≡ false → before y x ≡ true
order_other x y u v = is_true _ (before_other x y (λ t. clash _ (is_true _ t) v) (λ q. clash _ (eq_same x y q) u))

module _ (x y : List ℕ) where
  pub images-same : length x ≡ length y → common x y ≡ length x → same x y ≡ true
  images-same h e = sym (same-common x y h) ∙ eq-eqb _ _ e

  pub images-other : (length x ≡ length y → common x y ≡ length x → ⊥) → same x y ≡ false
  images-other h =
      by_bool (same x y)
      (λ t. let q = same_true x y t in absurd (h (ap length q) (eqb-true _ _ (same-common x y (ap length q) ∙ t))))
      (λ f. f)

abbrev first_difference : List ℕ → List ℕ → Option ℕ
first_difference x y = cond (same x y) None (Some (common x y))

-- ---- one more difference

both_short : (a b : List Found) → ShortIds a → ShortIds b → ShortIds (a ++ b)
both_short a b p q d m = elim (Memᴰ.append_cases a m) [ inl u ↦ p d u | inr u ↦ q d u ]

one_short : (d : Found) → length (shown d).id ≤ 256 → ShortIds (d ∷ [])
one_short d h x m = elim (Memᴰ.cases_cons m) [ inl e ↦ rw e h | inr v ↦ absurd (Memᴰ.not-nil v) ]

module _ (l r : List Held) where
  abbrev Left : ℕ → List Entry
  Left i = drop i (values l)

  abbrev Right : ℕ → List Entry
  Right j = drop j (values r)

  -- i and j entries went, and these differences are found
  pub record Progress (found : List Found) (i j : ℕ) : Type 0 where
    pub left_in : i ≤ length l
    pub right_in : j ≤ length r
    pub few : length found ≤ i + j
    pub short : ShortIds found
    pub so_far : shown_all found ++ walk (Left i) (Right j) ≡ walk (values l) (values r)

  pub progress_none : Progress [] 0 0
  progress_none = record { left_in = omega arith; right_in = omega arith; few = omega arith; short = λ d m. absurd (Memᴰ.not-nil m); so_far = refl }

  more : (found : List Found) (d : Found) (rest : List Difference) → shown_all (found ++ (d ∷ [])) ++ rest ≡ shown_all found ++ (shown d ∷ rest)
  more found d rest = ap (λ a. a ++ rest) (map-append shown found (d ∷ [])) ∙ append_assoc (shown_all found) (shown d ∷ []) rest

  module _ (sl : Short l) (sr : Short r) (found : List Found) (i j : ℕ) (p : Progress found i j) (hi : i < length l) (hj : j < length r) where
    abbrev e : Held
    e = get_or l i no_held

    abbrev f : Held
    f = get_or r j no_held

    ahead : walk (Left i) (Right j) ≡ walk (value e ∷ Left (i + 1)) (value f ∷ Right (j + 1))
    ahead = ap₂ walk (values_at l i hi) (values_at r j hj)

    short_left : length e.id.now ≤ 256
    short_left = sl e (at_member l no_held i hi)

    short_right : length f.id.now ≤ 256
    short_right = sr f (at_member r no_held j hj)

    pub progress_left : before e.id.now f.id.now ≡ true → Progress (found ++ (OnlyLeft e.id ∷ [])) (i + 1) j
    progress_left t = record {
      left_in = omega arith;
      right_in = p.right_in;
      few = omega (arith, p.few, length-append found (OnlyLeft e.id ∷ []));
      short = both_short found (OnlyLeft e.id ∷ []) p.short (one_short (OnlyLeft e.id) short_left);
      so_far =
          more found (OnlyLeft e.id) (walk (Left (i + 1)) (Right j))
          ∙ ap (λ z. shown_all found ++ (only_left (value e) ∷ walk (Left (i + 1)) z)) (values_at r j hj)
          ∙ ap (λ z. shown_all found ++ z) (sym (ahead ∙ walk_left (value e) (value f) (Left (i + 1)) (Right (j + 1)) t))
          ∙ p.so_far;
    }

    pub progress_right : before f.id.now e.id.now ≡ true → Progress (found ++ (OnlyRight f.id ∷ [])) i (j + 1)
    progress_right t = record {
      left_in = p.left_in;
      right_in = omega arith;
      few = omega (arith, p.few, length-append found (OnlyRight f.id ∷ []));
      short = both_short found (OnlyRight f.id ∷ []) p.short (one_short (OnlyRight f.id) short_right);
      so_far =
          more found (OnlyRight f.id) (walk (Left i) (Right (j + 1)))
          ∙ ap (λ z. shown_all found ++ (only_right (value f) ∷ walk z (Right (j + 1)))) (values_at l i hi)
          ∙ ap (λ z. shown_all found ++ z) (sym (ahead ∙ walk_right (value e) (value f) (Left (i + 1)) (Right (j + 1)) t))
          ∙ p.so_far;
    }

    module _ (q : e.id.now ≡ f.id.now) where
      met_ahead : (ds : List Difference) → met (value e) (value f) ≡ ds → walk (Left i) (Right j) ≡ ds ++ walk (Left (i + 1)) (Right (j + 1))
      met_ahead ds m = ahead ∙ walk_both (value e) (value f) (Left (i + 1)) (Right (j + 1)) q ∙ ap (λ z. z ++ walk (Left (i + 1)) (Right (j + 1))) m

      module _ (o : Option ℕ) (given : o ≡ first_difference e.image.now f.image.now) where
        pub progress_none_found : ((n : ℕ) → o ≡ Some n → ⊥) → Progress found (i + 1) (j + 1)
        unfolding met
        progress_none_found h =
            let t : same e.image.now f.image.now ≡ true = by_bool (same e.image.now f.image.now) (λ t. t) (λ u. absurd (h (common e.image.now f.image.now) (given ∙ rw u refl))) in
            record {
              left_in = omega arith;
              right_in = omega arith;
              few = omega (arith, p.few);
              short = p.short;
              so_far = ap (λ z. shown_all found ++ z) (sym (met_ahead [] (rw t))) ∙ p.so_far;
            }

        pub progress_found : (n : ℕ) → o ≡ Some n → Progress (found ++ (Images e.id n ∷ [])) (i + 1) (j + 1)
        unfolding met
        progress_found n h =
            let x = e.image.now in
            let y = f.image.now in
            let g : Some n ≡ first_difference x y = sym h ∙ given in
            let u : same x y ≡ false = by_bool (same x y) (λ t. absurd (let z : Some n ≡ None = rw t at g in cc)) (λ u. u) in
            let k : n ≡ common x y = let z : Some n ≡ Some (common x y) = rw u at g in cc in
            record {
              left_in = omega arith;
              right_in = omega arith;
              few = omega (arith, p.few, length-append found (Images e.id n ∷ []));
              short = both_short found (Images e.id n ∷ []) p.short (one_short (Images e.id n) short_left);
              so_far =
                  more found (Images e.id n) (walk (Left (i + 1)) (Right (j + 1)))
                  ∙ ap (λ z. shown_all found ++ z) (sym (met_ahead (shown (Images e.id n) ∷ []) (rw (k, u))))
                  ∙ p.so_far;
            }

-- ---- where one list is at its end, the rest of the other

abbrev pub lefts : List Held → List Found
lefts es = map (λ e. OnlyLeft e.id) es

abbrev pub rights : List Held → List Found
rights es = map (λ e. OnlyRight e.id) es

shown_lefts : (es : List Held) → shown_all (lefts es) ≡ map only_left (values es)
shown_lefts [] = refl
shown_lefts (e ∷ es) = ap (λ z. only_left (value e) ∷ z) (shown_lefts es)

shown_rights : (es : List Held) → shown_all (rights es) ≡ map only_right (values es)
shown_rights [] = refl
shown_rights (e ∷ es) = ap (λ z. only_right (value e) ∷ z) (shown_rights es)

values_drop : (i : ℕ) (es : List Held) → values (drop i es) ≡ drop i (values es)
values_drop zero es = refl
values_drop (suc i) [] = refl
values_drop (suc i) (e ∷ es) = values_drop i es

dropped : (i : ℕ) (es : List Held) (e : Held) → Memᴰ e (drop i es) → Memᴰ e es
dropped zero es e m = m
dropped (suc i) [] e m = m
dropped (suc i) (x ∷ es) e m = Memᴰ.tail (dropped i es e m)

lefts_short : (es : List Held) → Short es → ShortIds (lefts es)
lefts_short es s d m = let o = Memᴰ.of_map (λ (e : Held). OnlyLeft e.id) es m in rw (sym o.2) (s o.0 o.1)

rights_short : (es : List Held) → Short es → ShortIds (rights es)
rights_short es s d m = let o = Memᴰ.of_map (λ (e : Held). OnlyRight e.id) es m in rw (sym o.2) (s o.0 o.1)

module _ (l r : List Held) (found : List Found) (i j : ℕ) (p : Progress l r found i j) where
  abbrev all : List Found
  all = found ++ lefts (drop i l) ++ rights (drop j r)

  pub all_few : length all ≤ length l + length r
  all_few =
      omega (
        arith,
        p.few,
        p.left_in,
        p.right_in,
        length-append (found ++ lefts (drop i l)) (rights (drop j r)),
        length-append found (lefts (drop i l)),
        length-map (drop i l) (λ (e : Held). OnlyLeft e.id),
        length-map (drop j r) (λ (e : Held). OnlyRight e.id),
        length-drop i l,
        length-drop j r,
      )

  pub all_short : Short l → Short r → ShortIds all
  all_short sl sr =
      both_short (found ++ lefts (drop i l)) (rights (drop j r))
      (both_short found (lefts (drop i l)) p.short (lefts_short (drop i l) (λ e m. sl e (dropped i l e m))))
      (rights_short (drop j r) (λ e m. sr e (dropped j r e m)))

  pub all_found : (length l ≤ i) ⊎ (length r ≤ j) → shown_all all ≡ walk (values l) (values r)
  all_found h =
      map-append shown (found ++ lefts (drop i l)) (rights (drop j r))
      ∙ ap₂ ◌++◌
      (map-append shown found (lefts (drop i l)) ∙ ap (λ z. shown_all found ++ z) (shown_lefts (drop i l) ∙ ap (map only_left) (values_drop i l)))
      (shown_rights (drop j r) ∙ ap (map only_right) (values_drop j r))
      ∙ append_assoc (shown_all found) (map only_left (drop i (values l))) (map only_right (drop j (values r)))
      ∙ ap (λ z. shown_all found ++ z) (sym (walk_end (drop i (values l)) (drop j (values r)) (elim h [ inl a ↦ inl (values_end l i a) | inr b ↦ inr (values_end r j b) ])))
      ∙ p.so_far
