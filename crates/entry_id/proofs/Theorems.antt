-- The theorem on entry IDs. Assumes nothing.
use mathlib.Core.Path.{◌≡◌, refl, sym, ap, ◌∙◌}
use mathlib.Core.Bool.{Bool}
use mathlib.Core.List.{List, ◌∷◌, map}
use native.Mathlib.Omega.{arith}
use lib.ListN.{length}
use Rattle.wire.specs.Lists.{every}
use Rattle.wire.specs.Bytes.{bytes, same}
use Prim.Native.Nat.{ℕ}
use Rattle.wire.proofs.SortLaws.{distinct-rising, rising-distinct}
use Rattle.wire.specs.Order.{distinct_by, rising_by, sort_by}
use Rattle.wire.proofs.Bools.{bool_ext}
use Rattle.entry_id.specs.Meaning.{by_name, Meaning, feature, fields_of, pieces_of, fifth_is_processor, meaning, meaning_of, field_byte, name_byte}
use Rattle.entry_id.specs.Compare.{compared_kind, compared_as, same_target, compatible, same_meaning, mixed}
use Rattle.entry_id.specs.Theorems.{EntryIds, hip_id, hipv4_id, OneKind, ProfileIds}
use Rattle.entry_id.proofs.ReadBack.{canon-meaning, same-canon, canon-valid, canon-size, canon_again, canon-refused}
use Rattle.entry_id.proofs.FeatureLaws.{features_stated, same_meaning_eq, eq_same_meaning, one_entry}
use Rattle.entry_id.proofs.CompareLaws.{names-sets}
use Rattle.entry_id.proofs.KindLaws.{kinds_apart, meaning-behind}
use Rattle.entry_id.proofs.ProfileLaws.{profile_meaning_lem, same_profile, profile_form-valid, profile_again, profile_refused, as_before, profile_general, profile_form-meaning, profile_stricter, from_general, same_stays, mixed_stays, compatible_stays}
use Rattle.entry_id.proofs.CanonicalLaws.{compatible_canonical, mixed_canonical, same_canonical}

stated_once : (x : List ℕ) → rising_by by_name (meaning x).features ≡ distinct_by by_name (map feature (pieces_of x))
unfolding meaning meaning_of
stated_once x =
    let l = map feature (pieces_of x) in
    bool_ext (rising_by by_name (sort_by by_name l)) (distinct_by by_name l) (rising-distinct by_name l) (distinct-rising by_name l)

pub entry_ids : EntryIds
entry_ids = record {
  read_back = canon-meaning;
  one_form = same-canon;
  form_valid = canon-valid;
  form_size = canon-size;
  form_again = canon_again;
  form_none = canon-refused;
  features_stated = features_stated;
  stated_once = stated_once;
  same_is_equal = λ a b. (same_meaning_eq a b, eq_same_meaning a b);
  same_names_lem = names-sets;
  one_compatible = one_entry;
  compatible_text_lem = compatible_canonical;
  same_text_lem = same_canonical;
  mixed_text_lem = mixed_canonical;
}

pub profile_ids : ProfileIds
profile_ids = record {
  read_back = profile_meaning_lem;
  one_form = same_profile;
  form_valid = profile_form-valid;
  form_again = profile_again;
  form_none = profile_refused;
  as_before = as_before;
  general = profile_general;
  general_meaning = profile_form-meaning;
  stricter = profile_stricter;
  from_general = from_general;
  same_stays = same_stays;
  mixed_stays = mixed_stays;
  compatible_stays = compatible_stays;
}

-- ---- hip and hipv4

abbrev hip : List ℕ → Meaning
hip t = meaning (hip_id t)

abbrev four : List ℕ → Meaning
four t = meaning (hipv4_id t)

-- a text behind either is a meaning that differs in the kind alone
module _ (t : List ℕ) where
  behind_hip : hip t ≡ meaning_of (bytes "hip" ∷ fields_of t) (pieces_of t)
  unfolding every field_byte name_byte
  behind_hip = meaning-behind (bytes "hip") t tt

  behind_four : four t ≡ meaning_of (bytes "hipv4" ∷ fields_of t) (pieces_of t)
  unfolding every field_byte name_byte
  behind_four = meaning-behind (bytes "hipv4") t tt

  either : (P : Meaning → Bool) → P (meaning_of (bytes "hip" ∷ fields_of t) (pieces_of t)) ≡ P (meaning_of (bytes "hipv4" ∷ fields_of t) (pieces_of t)) → P (hip t) ≡ P (four t)
  either P e = ap P behind_hip ∙ e ∙ sym (ap P behind_four)

  same-compared : compared_as (hip t) ≡ compared_as (four t)
  unfolding compared_as compared_kind meaning_of fifth_is_processor same
  same-compared = ap compared_as behind_hip ∙ sym (ap compared_as behind_four)

pub one_kind : OneKind
unfolding compatible same_meaning mixed same_target compared_as compared_kind meaning_of fifth_is_processor same
one_kind = record {
  apart = kinds_apart;
  twice = λ t. eq_same_meaning (hip t) (four t) (same-compared t);
  entry_either = λ t d. either t (λ e. compatible e d) refl;
  device_either = λ e t. either t (λ d. compatible e d) refl;
  same_either = λ t b. either t (λ a. same_meaning a b) refl;
  mixed_either = λ t b. either t (λ a. mixed a b) refl;
  kept = λ t u v w e.
      let k = ap (λ (m : Meaning). m.kind) (sym (behind_hip t) ∙ (same-canon _ _ v w).0 e ∙ behind_four u) in
      absurd (ne k);
}
  where
    ne : bytes "hip" ≡ bytes "hipv4" → ⊥
    ne e = let n = ap length e in omega arith
