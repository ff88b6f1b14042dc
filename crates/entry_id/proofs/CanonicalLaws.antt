-- What the tests on canonical texts say of the meanings. Assumes nothing.
use Prim.Native.Nat.{ℕ}
use Prim.Native.Char.{code}
use mathlib.Core.Path.{◌≡◌, sym, ap, ap₂, ◌∙◌, subst}
use mathlib.Core.Bool.{Bool, not, ◌&&◌}
use mathlib.Core.List.{List, [], ◌∷◌, map}
use lib.ListN.{get_or}
use lib.Dec.{T}
use Rattle.wire.specs.Lists.{agree, any, every}
use Rattle.entry_id.specs.Text.{split_on, join_with}
use Rattle.wire.specs.Bytes.{same}
use Rattle.wire.proofs.ByteLaws.{same_refl, same_eq}
use Rattle.wire.proofs.Bools.{bool_ext, by_bool, of_true, and_l, and_r, and_t, and_assoc}
use Rattle.entry_id.specs.Meaning.{Meaning, piece, six_fields, canonical_of, meaning, valid, canon}
use Rattle.entry_id.specs.Compare.{compared_kind, compared_as, same_target, same_feature, compatible, same_names, same_meaning, mixed}
use Rattle.entry_id.specs.Canonical.{head_of, kind_part, after_kind, within, same_but_sign, of_one_kind, compatible_spelled, mixed_spelled, compatible_text, same_text, mixed_text}
use Rattle.entry_id.proofs.ReadBack.{Plain, plain_meaning, canon_is, head_write, pieces_back, meaning-write}
use Rattle.entry_id.proofs.FeatureLaws.{same_feature_eq, same_feature_refl, agree_eq, agree_refl}
use Rattle.entry_id.proofs.CompareLaws.{within_pieces, fields_heads}
use Rattle.entry_id.proofs.SignLaws.{alike_names}
use Rattle.entry_id.proofs.KindLaws.{bare, bare_plain, kind_head, after_head, kind_test}

-- ---- heads

pub head_canon : (x : List ℕ) → T (valid x) → head_of (canon x) ≡ join_with (code "-") (six_fields (meaning x))
unfolding head_of
head_canon x v = ap (λ l. get_or (split_on 58 l) 0 []) (canon_is x v) ∙ head_write (meaning x) (plain_meaning x v)

-- the head behind its kind, in either order
pub head_after : (x : List ℕ) → T (valid x) → after_kind (head_of (canon x)) ≡ head_of (after_kind (canon x))
head_after x v =
    ap after_kind (head_canon x v) ∙ after_head (meaning x) (plain_meaning x v) ∙ ap (λ l. head_of (after_kind l)) (sym (canon_is x v))

pub head_kind : (x : List ℕ) → T (valid x) → kind_part (head_of (canon x)) ≡ kind_part (canon x)
head_kind x v = ap kind_part (head_canon x v) ∙ kind_head (meaning x) (plain_meaning x v) ∙ ap kind_part (sym (canon_is x v))

-- ---- the tests behind the kind, on what is written of two meanings

module _ (a b : Meaning) (s : Plain a) (t : Plain b) where
  heads_are : same (head_of (canonical_of a)) (head_of (canonical_of b)) ≡ agree same (six_fields a) (six_fields b)
  unfolding head_of
  heads_are = ap₂ same (head_write a s) (head_write b t) ∙ sym (fields_heads a b s t)

  -- entry a and device b
  compatible-written : compatible_spelled (canonical_of a) (canonical_of b) ≡ (agree same (six_fields a) (six_fields b) && every (λ f. any (same_feature f) b.features) a.features)
  unfolding compatible_spelled
  compatible-written = ap₂ ◌&&◌ heads_are (ap₂ within (pieces_back b t) (pieces_back a s) ∙ within_pieces a.features b.features)

  -- with the same head
  alike_written : T (agree same (six_fields a) (six_fields b)) → agree same_but_sign (canonical_of a) (canonical_of b) ≡ same_names a.features b.features
  unfolding canonical_of
  alike_written e =
      let h = agree_eq same same_eq (six_fields a) (six_fields b) e in
      ap (λ fs. agree same_but_sign (canonical_of a) (join_with (code ":") (join_with (code "-") fs ∷ map piece b.features))) (sym h)
      ∙ alike_names (join_with (code "-") (six_fields a)) a.features b.features s.all_named t.all_named

  mixed-written : mixed_spelled (canonical_of a) (canonical_of b) ≡ (agree same (six_fields a) (six_fields b) && not (same_names a.features b.features))
  unfolding mixed_spelled
  mixed-written =
      ap (λ (h : Bool). h && not (agree same_but_sign (canonical_of a) (canonical_of b))) heads_are
      ∙ by_bool (agree same (six_fields a) (six_fields b)) (λ e. ap (λ (n : Bool). agree same (six_fields a) (six_fields b) && not n) (alike_written (of_true _ e))) (λ e. rw e)

  same-written : same (canonical_of a) (canonical_of b) ≡ (agree same (six_fields a) (six_fields b) && agree same_feature a.features b.features)
  unfolding canonical_of
  same-written =
      let fields = agree same (six_fields a) (six_fields b) in
      let features = agree same_feature a.features b.features in
      bool_ext (same (canonical_of a) (canonical_of b)) (fields && features)
      (λ u.
      let e : a ≡ b = sym (meaning-write a s) ∙ ap meaning (same_eq (canonical_of a) (canonical_of b) u) ∙ meaning-write b t in
      and_t fields features
      (subst (λ (c : Meaning). T (agree same (six_fields a) (six_fields c))) e (agree_refl same same_refl (six_fields a)))
      (subst (λ (c : Meaning). T (agree same_feature a.features c.features)) e (agree_refl same_feature same_feature_refl a.features)))
      (λ u.
      let f = agree_eq same same_eq (six_fields a) (six_fields b) (and_l fields features u) in
      let g = agree_eq same_feature same_feature_eq a.features b.features (and_r fields features u) in
      subst (λ l. T (same (canonical_of a) l)) (ap₂ (λ fs gs. join_with (code ":") (join_with (code "-") fs ∷ map piece gs)) f g) (same_refl (canonical_of a)))

-- ---- the tests on canonical forms

module _ (x y : List ℕ) (v : T (valid x)) (w : T (valid y)) where
  abbrev m : Meaning
  m = meaning x

  abbrev n : Meaning
  n = meaning y

  good_m : Plain m
  good_m = plain_meaning x v

  good_n : Plain n
  good_n = plain_meaning y w

  -- a test of kinds, of the other fields and of features
  by_parts : (test : List ℕ → List ℕ → Bool) (features : Bool)
      → test (canonical_of (bare m)) (canonical_of (bare n)) ≡ (agree same (six_fields (bare m)) (six_fields (bare n)) && features)
      → of_one_kind test (canon x) (canon y) ≡ (same_target m n && features)
  unfolding same_target agree same six_fields bare compared_as
  by_parts test features e =
      ap₂ (of_one_kind test) (canon_is x v) (canon_is y w) ∙ kind_test test m n good_m good_n
      ∙ ap (λ (r : Bool). same (compared_kind m.kind) (compared_kind n.kind) && r) e
      ∙ and_assoc (same (compared_kind m.kind) (compared_kind n.kind)) (agree same (six_fields (bare m)) (six_fields (bare n))) features

  -- entry x is compatible with device y
  pub compatible_canonical : compatible_text (canon x) (canon y) ≡ compatible m n
  unfolding compatible_text compatible bare
  compatible_canonical = by_parts compatible_spelled _ (compatible-written (bare m) (bare n) (bare_plain m good_m) (bare_plain n good_n))

  pub mixed_canonical : mixed_text (canon x) (canon y) ≡ mixed m n
  unfolding mixed_text mixed bare
  mixed_canonical = by_parts mixed_spelled _ (mixed-written (bare m) (bare n) (bare_plain m good_m) (bare_plain n good_n))

  pub same_canonical : same_text (canon x) (canon y) ≡ same_meaning m n
  unfolding same_text same_meaning bare
  same_canonical = by_parts same _ (same-written (bare m) (bare n) (bare_plain m good_m) (bare_plain n good_n))
