-- The examples on entry IDs, by computation. Assumes nothing.
use mathlib.Core.Path.{refl}
use Rattle.wire.specs.Lists.{any, every}
use Rattle.wire.specs.Order.{insert_by, rising_by, sort_by}
use Rattle.wire.specs.Bytes.{empty, same, before}
use Rattle.entry_id.specs.Text.{on_first, split_on, join_with}
use Rattle.entry_id.specs.Meaning.{fields_of, pieces_of, names_processor, fifth_is_processor, feature, meaning_of, meaning, sign, piece, six_fields, canonical_of}
use Rattle.entry_id.specs.Meaning.{name_byte, field_byte, processor_byte, processor_shaped, kinds, signed, named, shaped, proper, valid, canon}
use Rattle.entry_id.specs.Processors.{processors, names, stands, primary_in}
use Rattle.entry_id.specs.Profile.{our_kinds, ours, primary_of, supported, supports, known, with_primary, profile_meaning, profile_proper, profile_valid, profile_canon}
use Rattle.entry_id.specs.Examples.{IdExamples, long_id, ProfileExamples}

pub id_examples : IdExamples
unfolding empty same before every any on_first split_on join_with fields_of pieces_of names_processor fifth_is_processor feature insert_by sort_by meaning_of meaning sign piece six_fields canonical_of name_byte field_byte processor_byte processor_shaped kinds signed rising_by named shaped proper valid canon
id_examples = record {
  no_processor = refl;
  three_fields = refl;
  four_fields = refl;
  seven_fields = refl;
  stated_twice = refl;
  unsigned = refl;
  kept_kind = refl;
  other_kind = refl;
  empty_vendor = refl;
  generic = refl;
  generic_again = refl;
  sm_fifth = refl;
  no_environment = refl;
  two_in_one = refl;
  two_form = refl;
  sixth_environment = refl;
  sixth_processor = refl;
  sixth_form = refl;
  not_quite = refl;
  not_quite_form = refl;
  with_feature = refl;
  no_sixth = refl;
  no_sixth_form = refl;
  gfxenv_refused = refl;
  hyphen_alone = refl;
  hyphen_first = refl;
  hyphen_last = refl;
  hyphen_colon = refl;
  hyphens_inside = refl;
}

pub profile_examples : ProfileExamples
unfolding empty same before every any on_first split_on join_with fields_of pieces_of names_processor fifth_is_processor feature insert_by sort_by meaning_of meaning sign piece six_fields canonical_of name_byte field_byte processor_byte processor_shaped kinds signed rising_by named shaped proper valid canon processors names stands primary_in our_kinds ours primary_of supported supports known with_primary profile_meaning profile_proper profile_valid profile_canon long_id
profile_examples = record {
  alternative = refl;
  means_primary = refl;
  first_row = refl;
  last_row = refl;
  fifth = refl;
  unknown = refl;
  longer = refl;
  capital = refl;
  unsupported = refl;
  other_feature = refl;
  second_feature = refl;
  generic_xnack = refl;
  generic_none = refl;
  supported = refl;
  limit = refl;
  limit_size = refl;
  above = refl;
  above_general = refl;
  shorter = refl;
  host = refl;
  other_arch = refl;
  no_processor = refl;
}
