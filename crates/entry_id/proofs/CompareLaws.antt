-- The definitions in the terms that code on texts has: pieces, heads of canonical forms, names in order. Assumes nothing.
use Prim.Native.Nat.{ℕ, suc, ◌-◌}
use Prim.Native.Char.{code}
use mathlib.Core.Path.{◌≡◌, refl, sym, ap, ap₂, ◌∙◌, subst}
use mathlib.Core.Logic.{inl, inr}
use mathlib.Core.Bool.{true, ◌&&◌, ◌||◌}
use mathlib.Core.List.Memᴰ
use mathlib.Core.List.{List, [], ◌∷◌, map, Memᴰ, head-eq_of_cons-eq, tail-eq_of_cons-eq}
use native.Mathlib.Omega.{arith}
use lib.ListN.{length, get_or}
use lib.Seq.{take-suc, take_all}
use lib.Dec.{T, eqb, eqb→eq}
use Rattle.wire.proofs.SortLaws.{one_list}
use Rattle.wire.specs.Lists.{agree, any, every}
use Rattle.wire.specs.Order.{rising_by}
use Rattle.entry_id.specs.Text.{split_on, join_with}
use Rattle.wire.specs.Bytes.{same, before}
use Rattle.wire.proofs.Bools.{bool_ext, and_l, and_r, and_t, or_t, or_l, or_r}
use Rattle.wire.proofs.ByteLaws.{same_refl, same_eq}
use Rattle.entry_id.specs.Meaning.{by_name, Feature, Meaning, pieces_of, feature, sign, piece, six_fields, signed, shaped, valid}
use Rattle.entry_id.specs.Theorems.{name_in}
use Rattle.entry_id.specs.Compare.{same_feature, same_names}
use Rattle.entry_id.specs.Canonical.{within}
use Rattle.entry_id.proofs.ReadBack.{Plain, all_signed, features_pieces, six_of_lem, six_back}
use Rattle.entry_id.proofs.FeatureLaws.{same_feature_eq, same_feature_refl, agree_eq, agree_refl}

-- ---- a feature is its piece

sign_of_lem : (s : ℕ) → T (eqb s (code "+") || eqb s (code "-")) → sign (eqb s (code "+")) ≡ s
unfolding sign
sign_of_lem s t = elim (or_t (eqb s (code "+")) (eqb s (code "-")) t) [
  | inl u ↦ subst (λ (n : ℕ). sign (eqb n (code "+")) ≡ n) (sym (eqb→eq s (code "+") u)) refl
  | inr u ↦ subst (λ (n : ℕ). sign (eqb n (code "+")) ≡ n) (sym (eqb→eq s (code "-") u)) refl
]

pub piece-feature : (p : List ℕ) → T (signed p) → piece (feature p) ≡ p
unfolding piece feature signed
piece-feature [] t = absurd t
piece-feature (x ∷ p) t =
    let e : suc (length p) - 1 ≡ length p = omega arith in
    rw (sign_of_lem (get_or (x ∷ p) (length (x ∷ p) - 1) 0) t, e)
    (sym (take-suc (x ∷ p) (length p) 0 (omega arith)) ∙ take_all (suc (length p)) (x ∷ p) (omega arith))

-- two pieces state the same exactly where their bytes are the same
same_pieces : (p q : List ℕ) → T (signed p) → T (signed q) → same_feature (feature p) (feature q) ≡ same p q
same_pieces p q s t =
    bool_ext (same_feature (feature p) (feature q)) (same p q)
    (λ u. subst (λ r. T (same p r)) (sym (piece-feature p s) ∙ ap piece (same_feature_eq (feature p) (feature q) u) ∙ piece-feature q t) (same_refl p))
    (λ u. subst (λ r. T (same_feature (feature p) (feature r))) (same_eq p q u) (same_feature_refl (feature p)))

any_pieces : (p : List ℕ) (qs : List (List ℕ)) → T (signed p) → T (every signed qs) → any (same_feature (feature p)) (map feature qs) ≡ any (same p) qs
unfolding any every
any_pieces p [] s t = refl
any_pieces p (q ∷ qs) s t =
    let a = same_pieces p q s (and_l (signed q) (every signed qs) t) in
    let b = any_pieces p qs s (and_r (signed q) (every signed qs) t) in
    cc

every_pieces : (ps qs : List (List ℕ)) → T (every signed ps) → T (every signed qs)
    → every (λ f. any (same_feature f) (map feature qs)) (map feature ps) ≡ every (λ p. any (same p) qs) ps
unfolding every
every_pieces [] qs s t = refl
every_pieces (p ∷ ps) qs s t =
    let a = any_pieces p qs (and_l (signed p) (every signed ps) s) t in
    let b = every_pieces ps qs (and_r (signed p) (every signed ps) s) t in
    cc

pub valid-signed : (x : List ℕ) → T (valid x) → T (every signed (pieces_of x))
unfolding valid shaped
valid-signed x v = search (and_l, and_r)

-- each feature is stated exactly where its piece stands
pub within_pieces : (fs gs : List Feature) → within (map piece gs) (map piece fs) ≡ every (λ f. any (same_feature f) gs) fs
unfolding within
within_pieces fs gs =
    sym (every_pieces (map piece fs) (map piece gs) (all_signed fs) (all_signed gs))
    ∙ ap₂ (λ ps qs. every (λ f. any (same_feature f) qs) ps) (features_pieces fs) (features_pieces gs)

-- ---- heads

-- the six fields are the same exactly where the canonical forms agree before the first ':'
pub fields_heads : (a b : Meaning) → Plain a → Plain b → agree same (six_fields a) (six_fields b) ≡ same (join_with (code "-") (six_fields a)) (join_with (code "-") (six_fields b))
fields_heads a b s t =
    let x = join_with (code "-") (six_fields a) in
    let y = join_with (code "-") (six_fields b) in
    bool_ext (agree same (six_fields a) (six_fields b)) (same x y)
    (λ u. subst (λ fs. T (same x (join_with (code "-") fs))) (agree_eq same same_eq (six_fields a) (six_fields b) u) (same_refl x))
    (λ u. subst (λ fs. T (agree same (six_fields a) fs)) (sym (six_back a s) ∙ ap (λ z. six_of_lem (split_on (code "-") z)) (same_eq x y u) ∙ six_back b t) (agree_refl same same_refl (six_fields a)))

-- ---- the same set of names, either way round

-- the feature with its sign forgotten
plain : Feature → Feature
plain f = record { name = f.name; on = true }

rising_plain : (l : List Feature) → T (rising_by by_name l) → T (rising_by by_name (map plain l))
unfolding rising_by plain
rising_plain [] t = tt
rising_plain (f ∷ []) t = tt
rising_plain (f ∷ g ∷ l) t =
    and_t (before f.name g.name) (rising_by by_name (map plain (g ∷ l))) (and_l (before f.name g.name) (rising_by by_name (g ∷ l)) t)
    (rising_plain (g ∷ l) (and_r (before f.name g.name) (rising_by by_name (g ∷ l)) t))

in_plain : (f : Feature) (l : List Feature) → T (name_in f l) → Memᴰ (plain f) (map plain l)
unfolding name_in any plain
in_plain f [] t = absurd t
in_plain f (g ∷ l) t = elim (or_t (same f.name g.name) (name_in f l) t) [
  | inl u ↦ Memᴰ.head (ap (λ (n : List ℕ). record { name = n; on = true }) (same_eq f.name g.name u))
  | inr u ↦ Memᴰ.tail (in_plain f l u)
]

plain_in : (f : Feature) (l : List Feature) → Memᴰ (plain f) (map plain l) → T (name_in f l)
unfolding name_in any plain
plain_in f [] m = absurd (Memᴰ.not-nil m)
plain_in f (g ∷ l) m = elim (Memᴰ.cases_cons m) [
  | inl e ↦ or_l (same f.name g.name) (name_in f l) (subst (λ (h : Feature). T (same f.name h.name)) e (same_refl f.name))
  | inr u ↦ or_r (same f.name g.name) (name_in f l) (plain_in f l u)
]

all_in : (a b : List Feature) → T (every (λ f. name_in f b) a) → (h : Feature) → Memᴰ h (map plain a) → Memᴰ h (map plain b)
unfolding every
all_in [] b t h m = absurd (Memᴰ.not-nil m)
all_in (f ∷ a) b t h m = elim (Memᴰ.cases_cons m) [
  | inl e ↦ Memᴰ.cast e (in_plain f b (and_l (name_in f b) (every (λ g. name_in g b) a) t))
  | inr u ↦ all_in a b (and_r (name_in f b) (every (λ g. name_in g b) a) t) h u
]

in_all : (a b : List Feature) → ((h : Feature) → Memᴰ h (map plain a) → Memᴰ h (map plain b)) → T (every (λ f. name_in f b) a)
unfolding every
in_all [] b p = tt
in_all (f ∷ a) b p =
    and_t (name_in f b) (every (λ g. name_in g b) a) (plain_in f b (p (plain f) (Memᴰ.head refl)))
    (in_all a b (λ h m. p h (Memᴰ.tail m)))

names_plain : (a b : List Feature) → T (same_names a b) → map plain a ≡ map plain b
unfolding same_names agree plain
names_plain [] [] t = refl
names_plain [] (y ∷ b) t = absurd t
names_plain (x ∷ a) [] t = absurd t
names_plain (x ∷ a) (y ∷ b) t =
    let p = ap (λ (n : List ℕ). plain (record { name = n; on = true })) (same_eq x.name y.name (and_l (same x.name y.name) (same_names a b) t)) in
    let q = names_plain a b (and_r (same x.name y.name) (same_names a b) t) in
    cc

plain_names : (a b : List Feature) → map plain a ≡ map plain b → T (same_names a b)
unfolding same_names agree plain
plain_names [] [] e = tt
plain_names [] (y ∷ b) e = let z : ◌≡◌ {A = ℕ} 0 1 = cc in absurd (omega arith)
plain_names (x ∷ a) [] e = let z : ◌≡◌ {A = ℕ} 0 1 = cc in absurd (omega arith)
plain_names (x ∷ a) (y ∷ b) e =
    and_t (same x.name y.name) (same_names a b)
    (subst (λ (h : Feature). T (same x.name h.name)) (head-eq_of_cons-eq e) (same_refl x.name))
    (plain_names a b (tail-eq_of_cons-eq e))

pub names-sets : (a b : List Feature) → T (rising_by by_name a) → T (rising_by by_name b) → same_names a b ≡ (every (λ f. name_in f b) a && every (λ g. name_in g a) b)
names-sets a b s t =
    bool_ext (same_names a b) (every (λ f. name_in f b) a && every (λ g. name_in g a) b)
    (λ u. let e = names_plain a b u in
    and_t (every (λ f. name_in f b) a) (every (λ g. name_in g a) b)
    (in_all a b (λ h m. rw e at m)) (in_all b a (λ h m. rw (sym e) at m)))
    (λ u. plain_names a b (one_list by_name (map plain a) (map plain b) (rising_plain a s) (rising_plain b t)
    (all_in a b (and_l (every (λ f. name_in f b) a) (every (λ g. name_in g a) b) u))
    (all_in b a (and_r (every (λ f. name_in f b) a) (every (λ g. name_in g a) b) u))))
