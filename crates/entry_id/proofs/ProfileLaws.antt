-- The profile's reading of entry IDs: reading back, one form for each meaning, and how it stands to the general reading. Assumes nothing.
use Prim.Native.Nat.{ℕ, ◌≤◌, ◌<◌}
use Prim.Native.Char.{code}
use native.Mathlib.Omega.{arith}
use mathlib.Core.Path.{◌≡◌, refl, sym, ap, ◌∙◌, subst}
use mathlib.Core.Logic.{inl, inr, ◌↔◌}
use mathlib.Core.Bool.{Bool, true, false, not, ◌&&◌, ◌||◌, cond}
use mathlib.Core.List.{List, [], ◌∷◌, map, Memᴰ}
use lib.Dec.{T, ltb, leb, le→leb, leb→le}
use lib.ListN.{length, get_or, drop, drop_of_length-le}
use lib.Seq.{get_or-drop}
use borrow.Author.Tests.{ltb-true, ltb-false}
use Rattle.wire.specs.Lists.{any, every}
use Rattle.wire.specs.Bytes.{bytes, empty, same}
use Rattle.wire.proofs.Bools.{by_bool, and_l, and_r, and_t, and_true, or_l, is_true, is_false, not_t, of_true, cases, clash, cond_ind}
use Rattle.wire.proofs.ByteLaws.{same_true}
use Rattle.entry_id.specs.Text.{join_with}
use Rattle.entry_id.specs.Meaning.{Feature, Meaning, fields_of, pieces_of, names_processor, fifth_is_processor, feature, meaning_of, meaning, six_fields, canonical_of, signed, field_byte, processor_shaped, shaped, proper, valid, canon}
use Rattle.entry_id.specs.Processors.{sixth_name}
use Rattle.entry_id.specs.Compare.{compared_kind, compared_as, same_target, compatible, same_meaning, mixed}
use Rattle.entry_id.specs.Profile.{our_kinds, ours, primary_of, known, with_processor, with_primary, profile_meaning, profile_proper, profile_valid, profile_canon}
use Rattle.entry_id.proofs.ReadBack.{Proper, parts, Plain, plain, environment_plain, meaning-write, valid-write, ReadsBack, form_is, form-meaning, form-right, form-refused, form_again, one_form}
use Rattle.entry_id.proofs.ReadBack.{canon_back, canon_is, canon-valid, canon-meaning, canon-refused}
use Rattle.entry_id.proofs.FeatureLaws.{features_stated, same_target_eq, eq_same_target}
use Rattle.entry_id.proofs.ProcessorLaws.{named_more, field-shaped}
use Rattle.entry_id.proofs.NameLaws.{primary_twice, primary_or_sixth}
use Rattle.entry_id.proofs.LengthLaws.{length_six}

-- ---- meanings

named_primary : (m : Meaning) → ours m ≡ true → with_primary m ≡ with_processor m (primary_of m.processor)
unfolding with_primary
named_primary m e = ap (λ b. with_processor m (cond b (primary_of m.processor) m.processor)) e

-- "All other IDs read as before."
other_meaning : (m : Meaning) → ours m ≡ false → with_primary m ≡ m
unfolding with_primary
other_meaning m e = ap (λ b. with_processor m (cond b (primary_of m.processor) m.processor)) e

again : (m : Meaning) (n : List ℕ) → with_primary (with_processor m (primary_of n)) ≡ with_processor m (primary_of n)
unfolding with_primary
again m n =
    ap (with_processor m) (cond_ind (λ p. p ≡ primary_of n) (ours (with_processor m (primary_of n))) (primary_of (primary_of n)) (primary_of n) (primary_twice n) refl)

pub primary_stays : (m : Meaning) → with_primary (with_primary m) ≡ with_primary m
primary_stays m = elim (cases (ours m)) [
  | inl e ↦ let q = named_primary m e in ap with_primary q ∙ again m m.processor ∙ sym q
  | inr e ↦ ap with_primary (other_meaning m e)
]

-- ---- reading back

valid-shaped : (x : List ℕ) → T (valid x) → T (shaped x)
unfolding valid
valid-shaped x t = and_l (shaped x) (proper (meaning x)) t

module _ (x : List ℕ) (v : T (profile_valid x)) where
  profile_proper_lem : T (profile_proper (profile_meaning x))
  unfolding profile_valid
  profile_proper_lem = and_r (shaped x) (profile_proper (profile_meaning x)) v

  general_proper : T (proper (profile_meaning x))
  unfolding profile_proper
  general_proper = and_l (proper (profile_meaning x)) (not (ours (profile_meaning x)) || known (profile_meaning x)) profile_proper_lem

  pub proper_of : Proper (profile_meaning x)
  proper_of = parts (profile_meaning x) general_proper

  plain_of : Plain (profile_meaning x)
  unfolding profile_meaning with_primary
  plain_of = plain (profile_meaning x) proper_of (environment_plain x)

  -- the form that it writes is an ID by the general rules, with the meaning that the profile gives
  valid-form : T (valid (canonical_of (profile_meaning x)))
  valid-form = valid-write (profile_meaning x) plain_of general_proper

  meaning-form : meaning (canonical_of (profile_meaning x)) ≡ profile_meaning x
  meaning-form = meaning-write (profile_meaning x) plain_of

  back : profile_meaning (canonical_of (profile_meaning x)) ≡ profile_meaning x
  unfolding profile_meaning
  back = rw meaning-form (primary_stays (meaning x))

  right : T (profile_valid (canonical_of (profile_meaning x)))
  unfolding profile_valid
  right = rw back (and_t (shaped (canonical_of (profile_meaning x))) (profile_proper (profile_meaning x)) (valid-shaped (canonical_of (profile_meaning x)) valid-form) profile_proper_lem)

pub profile_back : ReadsBack profile_valid profile_meaning profile_canon
unfolding profile_canon profile_valid shaped
profile_back = record { form_of = λ x. refl; right_again = right; mean_again = back; none = refl }

profile_is : (x : List ℕ) → T (profile_valid x) → profile_canon x ≡ canonical_of (profile_meaning x)
profile_is = form_is profile_valid profile_meaning profile_canon profile_back

pub profile_meaning_lem : (x : List ℕ) → T (profile_valid x) → profile_meaning (profile_canon x) ≡ profile_meaning x
profile_meaning_lem = form-meaning profile_valid profile_meaning profile_canon profile_back

pub profile_form-valid : (x : List ℕ) → T (profile_valid x) → T (profile_valid (profile_canon x))
profile_form-valid = form-right profile_valid profile_meaning profile_canon profile_back

pub profile_refused : (x : List ℕ) → profile_valid x ≡ false → profile_canon x ≡ []
profile_refused = form-refused profile_valid profile_meaning profile_canon profile_back

pub profile_again : (x : List ℕ) → profile_canon (profile_canon x) ≡ profile_canon x
profile_again = form_again profile_valid profile_meaning profile_canon profile_back

pub same_profile : (x y : List ℕ) → T (profile_valid x) → T (profile_valid y) → (profile_canon x ≡ profile_canon y) ↔ (profile_meaning x ≡ profile_meaning y)
same_profile = one_form profile_valid profile_meaning profile_canon profile_back

pub profile_form-meaning : (x : List ℕ) → T (profile_valid x) → meaning (profile_canon x) ≡ profile_meaning x
profile_form-meaning x v = rw (profile_is x v) (meaning-form x v)

-- the profile changes no feature
pub profile_stated : (x : List ℕ) (f : Feature) → Memᴰ f (profile_meaning x).features ↔ Memᴰ f (map feature (pieces_of x))
unfolding profile_meaning with_primary
profile_stated = features_stated

-- a canonical form by the profile's rules is one by the general rules
pub profile_general : (x : List ℕ) → canon (profile_canon x) ≡ profile_canon x
profile_general x = elim (cases (profile_valid x)) [
  | inl e ↦
      let v = of_true (profile_valid x) e in
      canon_is (profile_canon x) (rw (profile_is x v) (valid-form x v)) ∙ ap canonical_of (profile_form-meaning x v) ∙ sym (profile_is x v)
  | inr e ↦ let r = profile_refused x e in rw r canon_back.none
]

-- ---- the tests on meanings

-- `hip` and `hipv4` are both among the kinds
kinds-compared : (k : List ℕ) → any (same (compared_kind k)) our_kinds ≡ any (same k) our_kinds
unfolding compared_kind our_kinds any same
kinds-compared k =
    by_bool (same k (bytes "hipv4"))
    (λ t. subst (λ z. any (same (compared_kind z)) our_kinds ≡ any (same z) our_kinds) (sym (same_true k (bytes "hipv4") t)) refl)
    (λ f. ap (λ b. any (same (cond b (bytes "hip") k)) our_kinds) f)

-- so a primary takes the name's place also in what a meaning is compared as
primary_compared : (m : Meaning) → compared_as (with_primary m) ≡ with_primary (compared_as m)
unfolding compared_as with_primary ours
primary_compared m =
    ap (λ b. with_processor (compared_as m) (cond (b && same m.arch (bytes "amdgcn") && not (empty m.processor)) (primary_of m.processor) m.processor))
    (sym (kinds-compared m.kind))

-- the meaning of these six fields
abbrev of_six : List (List ℕ) → Meaning
of_six l = record { kind = get_or l 0 []; arch = get_or l 1 []; vendor = get_or l 2 []; system = get_or l 3 []; environment = get_or l 4 []; processor = get_or l 5 []; features = [] }

six_primary : (m : Meaning) → six_fields (compared_as (with_primary m)) ≡ six_fields (with_primary (of_six (six_fields (compared_as m))))
unfolding with_primary ours six_fields
six_primary m = ap six_fields (primary_compared m)

target_stays : (a b : Meaning) → T (same_target a b) → T (same_target (with_primary a) (with_primary b))
target_stays a b t =
    eq_same_target (with_primary a) (with_primary b) (six_primary a ∙ ap (λ l. six_fields (with_primary (of_six l))) (same_target_eq a b t) ∙ sym (six_primary b))

-- what else the three tests ask is of features, which the profile does not change
test_stays : (a b : Meaning) (q : Bool) → T (same_target a b && q) → T (same_target (with_primary a) (with_primary b) && q)
test_stays a b q t = and_t (same_target (with_primary a) (with_primary b)) q (target_stays a b (and_l (same_target a b) q t)) (and_r (same_target a b) q t)

module _ (x y : List ℕ) where
  pub same_stays : T (same_meaning (meaning x) (meaning y)) → T (same_meaning (profile_meaning x) (profile_meaning y))
  unfolding same_meaning profile_meaning with_primary
  same_stays = test_stays (meaning x) (meaning y) _

  pub mixed_stays : T (mixed (meaning x) (meaning y)) → T (mixed (profile_meaning x) (profile_meaning y))
  unfolding mixed profile_meaning with_primary
  mixed_stays = test_stays (meaning x) (meaning y) _

  pub compatible_stays : T (compatible (meaning x) (meaning y)) → T (compatible (profile_meaning x) (profile_meaning y))
  unfolding compatible profile_meaning with_primary
  compatible_stays = test_stays (meaning x) (meaning y) _

-- ---- beside the general reading

-- "All other IDs read as before."
pub as_before : (x : List ℕ) → ours (meaning x) ≡ false → (profile_meaning x ≡ meaning x) × (profile_valid x ≡ valid x) × (profile_canon x ≡ canon x)
unfolding profile_canon canon profile_valid valid profile_proper profile_meaning
as_before x e = rw (other_meaning (meaning x) e, e, and_true (proper (meaning x))) (refl, refl, refl)

-- what begins with a processor's first field begins like a processor
join_named : (l : List (List ℕ)) → names_processor (get_or l 0 []) ≡ true → names_processor (join_with (code "-") l) ≡ true
unfolding join_with
join_named [] e = e
join_named (p ∷ []) e = e
join_named (p ∷ q ∷ ps) e = named_more p (code "-" ∷ join_with (code "-") (q ∷ ps)) e

-- where the processor starts among the fields
module _ (fs ps : List (List ℕ)) where
  fifth_processor : fifth_is_processor fs ≡ true → names_processor (meaning_of fs ps).processor ≡ true
  unfolding meaning_of fifth_is_processor
  fifth_processor e = rw e (join_named (drop 4 fs) (ap names_processor (get_or-drop 4 fs 0 []) ∙ e))

  sixth_processor : fifth_is_processor fs ≡ false → empty (meaning_of fs ps).processor ≡ false → 5 < length fs
  unfolding meaning_of empty join_with
  sixth_processor e some =
      by_bool (ltb 5 (length fs)) (λ t. ltb-true 5 (length fs) t)
      (λ f. clash (empty (join_with (code "-") (drop 5 fs))) (ap (λ l. empty (join_with (code "-") l)) (drop_of_length-le fs {i = 5} (ltb-false 5 (length fs) f))) (rw e at some))

-- a processor that begins neither with `gfx` nor with `sm_` starts in the sixth field
module _ (x : List ℕ) (s : T (shaped x)) (some : empty (meaning x).processor ≡ false) (sixth : names_processor (meaning x).processor ≡ false) where
  not_fifth : fifth_is_processor (fields_of x) ≡ false
  unfolding meaning
  not_fifth = by_bool (fifth_is_processor (fields_of x)) (λ t. clash _ (fifth_processor (fields_of x) (pieces_of x) t) sixth) (λ f. f)

  has_sixth : 5 < length (fields_of x)
  unfolding meaning
  has_sixth = sixth_processor (fields_of x) (pieces_of x) not_fifth some

  -- its canonical form is as long as the text
  long : length (canonical_of (meaning x)) ≤ 256
  unfolding shaped
  long =
      let signs : T (every signed (pieces_of x)) = search (and_l, and_r) in
      let h : T (leb (length x) 256) = search (and_l, and_r) in
      omega (arith, length_six x signs has_sixth not_fifth, leb→le (length x) 256 h)

-- a meaning that is proper with one processor is so with another, where that form fits
pub other_processor : (m : Meaning) (p : List ℕ) → Proper (with_processor m p) → empty m.processor ≡ false → T (processor_shaped m.processor) → length (canonical_of m) ≤ 256 → T (proper m)
unfolding proper
other_processor m p h some shape fits =
    let kind_in = h.kind_in in
    let arch_some = h.arch_some in
    let vendor_some = h.vendor_some in
    let system_some = h.system_some in
    let field_bytes_lem = h.field_bytes_lem in
    let all_named = h.all_named in
    let in_order = h.in_order in
    let few = h.few in
    let with-processor = or_l (not (empty m.processor)) (empty m.features) (of_true _ (ap not some)) in
    let short = le→leb (length (canonical_of m)) 256 fits in
    search and_t depth 14

-- "and a processor"
ours_some : (m : Meaning) → ours m ≡ true → empty m.processor ≡ false
unfolding ours
ours_some m e = let t = of_true (ours m) e in let n : T (not (empty m.processor)) = search (and_l, and_r) in not_t (empty m.processor) n

-- the profile's rules are the stricter ones: an ID by them is one by the general rules. An alternative name stands in the sixth field, so the form
-- that keeps it is as long as the text, and "the 256-byte limit .. on the form written with the primary" is the only one that can refuse
pub profile_stricter : (x : List ℕ) → T (profile_valid x) → T (valid x)
unfolding valid profile_meaning
profile_stricter x v =
    let m = meaning x in
    let s : T (shaped x) = unfold profile_valid in and_l (shaped x) (profile_proper (profile_meaning x)) v in
    let kept : with_primary m ≡ m → T (proper m) = λ e. subst (λ z. T (proper z)) e (general_proper x v) in
    and_t (shaped x) (proper m) s
    (by_bool (ours m)
    (λ o. elim (primary_or_sixth m.processor) [
      | inl e ↦ kept (named_primary m o ∙ ap (with_processor m) e)
      | inr u ↦
          let n : names_processor m.processor ≡ false = unfold sixth_name in not_t (names_processor m.processor) (and_r (every field_byte m.processor) (not (names_processor m.processor)) u) in
          let b : T (every field_byte m.processor) = unfold sixth_name in and_l (every field_byte m.processor) (not (names_processor m.processor)) u in
          other_processor m (primary_of m.processor) (subst Proper (named_primary m o) (proper_of x v)) (ours_some m o) (field-shaped m.processor b) (long x s (ours_some m o) n)
    ])
    (λ o. kept (other_meaning m o)))

-- so the profile's form is found from the general one
pub from_general : (x : List ℕ) → profile_canon x ≡ profile_canon (canon x)
unfolding profile_canon profile_valid profile_meaning
from_general x = elim (cases (valid x)) [
  | inl e ↦
      let v = of_true (valid x) e in
      let a : shaped x ≡ true = is_true (shaped x) (valid-shaped x v) in
      let b : shaped (canon x) ≡ true = is_true (shaped (canon x)) (valid-shaped (canon x) (canon-valid x v)) in
      rw (a, b, canon-meaning x v)
  | inr e ↦ profile_refused x (is_false (profile_valid x) (λ t. clash (valid x) (is_true _ (profile_stricter x t)) e)) ∙ sym (ap profile_canon (canon-refused x e) ∙ profile_back.none)
]
