-- The features of a meaning as a set, and the tests on meanings: the laws that make a pick's answer the only one. Assumes nothing.
use Prim.Native.Nat.{ℕ}
use mathlib.Core.Path.{◌≡◌, refl, sym, ap, ◌∙◌, subst}
use mathlib.Core.Logic.{inl, inr, ◌↔◌}
use mathlib.Core.Bool.{Bool, true, false, not, ◌&&◌, beq}
use mathlib.Core.List.{List, [], ◌∷◌, map, Memᴰ}
use lib.Dec.{T}
use Rattle.wire.proofs.SortLaws.{one_key, sort_in, sort_out}
use Rattle.wire.specs.Lists.{agree, any, every}
use Rattle.wire.specs.Order.{rising_by}
use Rattle.wire.specs.Bytes.{same}
use Rattle.wire.proofs.Bools.{and_l, and_r, and_t, or_t}
use Rattle.wire.proofs.ByteLaws.{same_refl, same_eq}
use Rattle.entry_id.specs.Meaning.{by_name, Feature, Meaning, pieces_of, feature, meaning_of, meaning, six_fields, valid}
use Rattle.entry_id.proofs.ReadBack.{parts, proper-meaning}
use Rattle.entry_id.specs.Compare.{compared_kind, compared_as, same_target, same_feature, compatible, same_names, same_meaning, mixed}

-- ---- the tests, read as facts

beq_refl : (a : Bool) → T (beq a a)
beq_refl true = tt
beq_refl false = tt

pub beq_eq : (a b : Bool) → T (beq a b) → a ≡ b
beq_eq true true t = refl
beq_eq true false t = absurd t
beq_eq false true t = absurd t
beq_eq false false t = refl

pub same_feature_eq : (f g : Feature) → T (same_feature f g) → f ≡ g
unfolding same_feature
same_feature_eq f g t =
    let p = same_eq f.name g.name (and_l (same f.name g.name) (beq f.on g.on) t) in
    let q = beq_eq f.on g.on (and_r (same f.name g.name) (beq f.on g.on) t) in
    λ i. record { name = p i; on = q i }

pub same_feature_refl : (f : Feature) → T (same_feature f f)
unfolding same_feature
same_feature_refl f = and_t (same f.name f.name) (beq f.on f.on) (same_refl f.name) (beq_refl f.on)

-- membership, as the tests have it, is a fact
any_mem : (f : Feature) (l : List Feature) → T (any (same_feature f) l) → Memᴰ f l
unfolding any
any_mem f [] t = absurd t
any_mem f (g ∷ l) t = elim (or_t (same_feature f g) (any (same_feature f) l) t) [
  | inl u ↦ Memᴰ.head (same_feature_eq f g u)
  | inr u ↦ Memᴰ.tail (any_mem f l u)
]

-- ---- sorting keeps the set

-- the meaning's features are those that the text states
pub features_stated : (x : List ℕ) (f : Feature) → Memᴰ f (meaning x).features ↔ Memᴰ f (map feature (pieces_of x))
unfolding meaning meaning_of
features_stated x f = (sort_out by_name f (map feature (pieces_of x)), sort_in by_name f (map feature (pieces_of x)))

-- ---- the tests on meanings

pub agree_eq : {A : Type 0} (t : A → A → Bool) → ((x y : A) → T (t x y) → x ≡ y) → (a b : List A) → T (agree t a b) → a ≡ b
unfolding agree
agree_eq t h [] [] u = refl
agree_eq t h [] (y ∷ b) u = absurd u
agree_eq t h (x ∷ a) [] u = absurd u
agree_eq t h (x ∷ a) (y ∷ b) u =
    let p = h x y (and_l (t x y) (agree t a b) u) in
    let q = agree_eq t h a b (and_r (t x y) (agree t a b) u) in
    cc

pub agree_refl : {A : Type 0} (t : A → A → Bool) → ((x : A) → T (t x x)) → (a : List A) → T (agree t a a)
unfolding agree
agree_refl t h [] = tt
agree_refl t h (x ∷ a) = and_t (t x x) (agree t a a) (h x) (agree_refl t h a)

pub same_target_eq : (a b : Meaning) → T (same_target a b) → six_fields (compared_as a) ≡ six_fields (compared_as b)
unfolding same_target
same_target_eq a b t = agree_eq same same_eq (six_fields (compared_as a)) (six_fields (compared_as b)) t

pub eq_same_target : (a b : Meaning) → six_fields (compared_as a) ≡ six_fields (compared_as b) → T (same_target a b)
unfolding same_target
eq_same_target a b e = subst (λ fs. T (agree same (six_fields (compared_as a)) fs)) e (agree_refl same same_refl (six_fields (compared_as a)))

same_target_join : (a b c : Meaning) → T (same_target a b) → T (same_target c b) → T (same_target a c)
same_target_join a b c s t = eq_same_target a c (same_target_eq a b s ∙ sym (same_target_eq c b t))

-- two lists of one set of names, both within one rising list, are one list
agree-within : (d : List Feature) → T (rising_by by_name d) → (a b : List Feature) → T (every (λ f. any (same_feature f) d) a) → T (every (λ f. any (same_feature f) d) b)
    → T (same_names a b) → T (agree same_feature a b)
unfolding every agree same_names
agree-within d r [] [] s t u = tt
agree-within d r [] (y ∷ b) s t u = u
agree-within d r (x ∷ a) [] s t u = u
agree-within d r (x ∷ a) (y ∷ b) s t u =
    let m = any_mem x d (and_l (any (same_feature x) d) (every (λ f. any (same_feature f) d) a) s) in
    let n = any_mem y d (and_l (any (same_feature y) d) (every (λ f. any (same_feature f) d) b) t) in
    let e = one_key by_name d r x y m n (same_eq x.name y.name (and_l (same x.name y.name) (same_names a b) u)) in
    and_t (same_feature x y) (agree same_feature a b) (subst (λ z. T (same_feature x z)) e (same_feature_refl x))
    (agree-within d r a b (and_r (any (same_feature x) d) (every (λ f. any (same_feature f) d) a) s)
    (and_r (any (same_feature y) d) (every (λ f. any (same_feature f) d) b) t) (and_r (same x.name y.name) (same_names a b) u))

unmixed : (a b : Bool) → T (not (a && not b)) → T a → T b
unmixed true true s t = tt
unmixed true false s t = s
unmixed false b s t = absurd t

-- two entries that are compatible with one device and are not mixed have one meaning
pub one_compatible : (e e' d : Meaning) → T (rising_by by_name d.features) → T (compatible e d) → T (compatible e' d) → T (not (mixed e e')) → T (same_meaning e e')
unfolding compatible mixed same_meaning
one_compatible e e' d r s t n =
    let a = same_target_join e d e' (and_l (same_target e d) (every (λ f. any (same_feature f) d.features) e.features) s)
    (and_l (same_target e' d) (every (λ f. any (same_feature f) d.features) e'.features) t) in
    let u = unmixed (same_target e e') (same_names e.features e'.features) n a in
    and_t (same_target e e') (agree same_feature e.features e'.features) a
    (agree-within d.features r e.features e'.features (and_r (same_target e d) (every (λ f. any (same_feature f) d.features) e.features) s)
    (and_r (same_target e' d) (every (λ f. any (same_feature f) d.features) e'.features) t) u)

-- `same_meaning` is equality of what meanings are compared as
pub same_meaning_eq : (a b : Meaning) → T (same_meaning a b) → compared_as a ≡ compared_as b
unfolding same_meaning six_fields compared_as
same_meaning_eq a b t =
    let h = same_target_eq a b (and_l (same_target a b) (agree same_feature a.features b.features) t) in
    let k : compared_kind a.kind ≡ compared_kind b.kind = cc in
    let r : a.arch ≡ b.arch = cc in
    let v : a.vendor ≡ b.vendor = cc in
    let s : a.system ≡ b.system = cc in
    let e : a.environment ≡ b.environment = cc in
    let p : a.processor ≡ b.processor = cc in
    let f = agree_eq same_feature same_feature_eq a.features b.features (and_r (same_target a b) (agree same_feature a.features b.features) t) in
    λ i. record { kind = k i; arch = r i; vendor = v i; system = s i; environment = e i; processor = p i; features = f i }

pub eq_same_meaning : (a b : Meaning) → compared_as a ≡ compared_as b → T (same_meaning a b)
unfolding same_meaning compared_as
eq_same_meaning a b e =
    and_t (same_target a b) (agree same_feature a.features b.features) (eq_same_target a b (ap six_fields e))
    (subst (λ l. T (agree same_feature a.features l)) (ap (λ (m : Meaning). m.features) e) (agree_refl same_feature same_feature_refl a.features))

-- no two entries with different meanings that are not mixed are compatible with one device name
pub one_entry : (x y d : List ℕ) → T (valid d) → T (compatible (meaning x) (meaning d)) → T (compatible (meaning y) (meaning d))
    → T (not (mixed (meaning x) (meaning y))) → compared_as (meaning x) ≡ compared_as (meaning y)
one_entry x y d v s t n =
    same_meaning_eq (meaning x) (meaning y) (one_compatible (meaning x) (meaning y) (meaning d) (parts (meaning d) (proper-meaning d v)).in_order s t n)
