-- What the definitions compute to: a proof that names one of these on its `unfolding` line opens all that stands on its own line.
-- Assumes nothing.
use Rattle.wire.specs.Bytes.{same, before, common, overwrite, empty}
use Rattle.wire.specs.Word.{bytes_of, word_of, word}
use Rattle.wire.specs.Lists.{every, any, agree}
use Rattle.wire.specs.Order.{insert_by, sort_by, rising_by}
use Rattle.entry_id.specs.Text.{on_first, split_on, join_with}
use Rattle.entry_id.specs.Meaning.{fields_of, pieces_of, names_processor, fifth_is_processor, feature, meaning_of, meaning, sign, piece, six_fields, canonical_of, name_byte, field_byte, processor_byte, processor_shaped, kinds, signed, named, shaped, proper, valid, canon}
use Rattle.entry_id.specs.Canonical.{in_room, head_of, kind_part, after_kind, within, sign_byte, same_but_sign, compatible_spelled, mixed_spelled, of_one_kind, compatible_text, same_text, mixed_text}
use Rattle.entry_id.specs.Compare.{compared_kind, compared_as, same_target, same_feature, compatible, same_names, same_meaning, mixed}
use Rattle.entry_id.specs.Processors.{processors, names, stands, primary_in}
use Rattle.entry_id.specs.Profile.{our_kinds, ours, primary_of, supported, supports, known, with_primary, profile_meaning, profile_proper, profile_valid, profile_canon}
use Rattle.entry_id.specs.Rules.{id_rules, canon_of, rules_of, form_in}

-- words, comparisons and copies of bytes
unfoldable pub words : Unit {0}
unfolding same before common overwrite bytes_of word_of word
words = tt

-- entry IDs
unfoldable pub ids : Unit {0}
unfolding words empty every any agree insert_by sort_by rising_by on_first split_on join_with fields_of pieces_of names_processor fifth_is_processor feature meaning_of meaning sign piece six_fields canonical_of name_byte field_byte processor_byte processor_shaped kinds signed named shaped proper valid canon in_room head_of kind_part after_kind within sign_byte same_but_sign compatible_spelled mixed_spelled of_one_kind compatible_text same_text mixed_text compared_kind compared_as same_target same_feature compatible same_names same_meaning mixed processors names stands primary_in our_kinds ours primary_of supported supports known with_primary profile_meaning profile_proper profile_valid profile_canon id_rules canon_of rules_of form_in
ids = tt
