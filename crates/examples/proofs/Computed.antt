-- The tables of examples, by computation. Assumes nothing.
use mathlib.Core.Path.{refl}
use Rattle.wire.specs.Bytes.{empty, same, before, common, overwrite}
use Rattle.wire.specs.Lists.{every, any, agree, total, joined, flattened, tab}
use Rattle.wire.specs.Order.{insert_by, sort_by, rising_by}
use Rattle.wire.specs.Bits.{bits_below, count_below}
use Rattle.wire.specs.Word.{bytes_of, word_of, word}
use Rattle.wire.specs.First.{first, any_below}
use Rattle.wire.specs.Stop.{◌⨾◌, stop_when, stop_if, stop_at, earlier, unrefused, over, output}
use Rattle.entry_id.specs.Text.{on_first, split_on, join_with}
use Rattle.entry_id.specs.Meaning.{fields_of, pieces_of, names_processor, fifth_is_processor, feature, meaning_of, meaning, sign, piece, six_fields, canonical_of}
use Rattle.entry_id.specs.Meaning.{name_byte, field_byte, processor_byte, processor_shaped, kinds, signed, named, shaped, proper, valid, canon}
use Rattle.entry_id.specs.Compare.{compared_kind, compared_as, same_target, same_feature, compatible, same_names, same_meaning, mixed}
use Rattle.entry_id.specs.Rules.{id_rules}
use Rattle.bundle.specs.Table.{magic, count, row_start, row_at, row, table_end}
use Rattle.bundle.specs.Check.{bad_row, outside, share_byte, same_span, overlaps, overlap_stop, head_stop, table_stop, refused_of, bad_id, mean_same, mix, rows_stop, bundle_stop, check}
use Rattle.bundle.specs.Pick.{compatible_at, chosen, pick_stop, pick, picked_image}
use Rattle.bundle.specs.Entry.{image_of, entry_of, entries_of}
use Rattle.bundle.specs.Layout.{row_bytes, table, bundle, packed_end, packed_length, images, packed, encode}
use Rattle.bundle.specs.EntryAt.{entry_stop, entry_at}
use Rattle.bundle.specs.Normal.{room_stop, answer, normal, normal_length, normalise_stop, normalise}
use Rattle.bundle.specs.Each.{part_of, slot_of, took, pick_at, taken, each_stop, pick_each, slots_after}
use Rattle.bundle.specs.Lookup.{has, lookup_stop, bundle_of, answering, lookup, lookup_image}
use Rattle.bundle.specs.Differences.{met, with_id, left_against, right_against, differences_of, decimal_of, decimal, line, printed, last_line, difference_lines, refused_line, refused_by, differences, input_stop, report, reported}
use Rattle.offload_binary.specs.Lists as lists
use Rattle.offload_binary.specs.Binary as binary
use Rattle.offload_binary.specs.Contents as contents
use Rattle.offload_binary.specs.Reader as reader
use Rattle.examples.specs.Examples.{Examples}
use Rattle.examples.specs.EachExamples.{EachExamples}
use Rattle.examples.specs.LookupExamples.{LookupExamples}
use Rattle.examples.specs.CompareExamples.{CompareExamples}

-- what the examples of bundles compute to
unfoldable bundles : Unit {0}
unfolding empty same before every any agree total insert_by sort_by rising_by bytes_of word_of word first any_below ◌⨾◌ stop_when stop_if stop_at earlier on_first split_on join_with fields_of pieces_of names_processor fifth_is_processor feature meaning_of meaning sign piece six_fields canonical_of name_byte field_byte processor_byte processor_shaped kinds signed named shaped proper valid canon compared_kind compared_as same_target same_feature compatible same_names same_meaning mixed id_rules magic count row_start row_at row table_end bad_row outside share_byte same_span overlaps overlap_stop head_stop table_stop unrefused bad_id mean_same mix rows_stop bundle_stop check compatible_at chosen pick_stop pick tab image_of entry_of entries_of row_bytes table bundle packed_end packed_length images packed encode entry_stop entry_at room_stop answer normal normal_length normalise_stop normalise
bundles = tt

pub examples : Examples
unfolding bundles lists.slots binary.bytes_at binary.run binary.ended binary.size_of binary.entry_at binary.own binary.entry_of binary.key_at binary.text_at binary.string_at binary.pair binary.key binary.bad_head binary.bad_span binary.bad_kinds binary.bad_table binary.bad_string binary.bad_pair binary.bad_strings binary.bad_image binary.body_stop binary.binary_stop binary.hands_back binary.binary binary.binary_at contents.field_bytes contents.texts contents.string_bytes contents.offsets contents.up8 contents.zeros contents.strings_start contents.strings_end contents.image_start contents.image_end contents.binary_size contents.head_fields contents.written reader.next_stop reader.next reader.cursor_after reader.answer
examples = record {
  empty_bundle = refl;
  empty_binaries = refl;
  none_accepted = refl;
  none_normal = refl;
  none_length = refl;
  host_form = refl;
  host_length = refl;
  one_end = refl;
  one_length = refl;
  one_normal = refl;
  hip_form = refl;
  hip_length = refl;
  any_sign = refl;
  unstated = refl;
  other_names = refl;
  two_spellings = refl;
  kinds_twice = refl;
  kinds_twice_turned = refl;
  kinds_mixed = refl;
  kinds_mixed_turned = refl;
  kinds_signs = refl;
  picks_hip = refl;
  picks_hipv4 = refl;
  kinds_apart = refl;
  picks_none = refl;
  normals_apart = refl;
  at_end = refl;
  past_end = refl;
  span_twice = refl;
  touching = refl;
  touching_turned = refl;
  empty_inside = refl;
  empty_first = refl;
  last_byte = refl;
  first_byte = refl;
  same_start = refl;
  same_end = refl;
  inside = refl;
  around = refl;
  range_first = refl;
  twice_later = refl;
  mixed_later = refl;
  overlap_picked = refl;
  overlap_entry = refl;
  overlap_normalised = refl;
  bare_size = refl;
  bare_length = refl;
  arch_image = refl;
  arch_size = refl;
  arch_length = refl;
}

pub each_examples : EachExamples
unfolding bundles bits_below count_below over output part_of slot_of took pick_at taken each_stop pick_each slots_after
each_examples = record {
  one_entry = refl;
  one_entry_slots = refl;
  both = refl;
  both_slots = refl;
  own = refl;
  own_slots = refl;
  no_names = refl;
  no_names_slots = refl;
  sixteen = refl;
  seventeen = refl;
  short = refl;
  refused = refl;
  refused_slots = refl;
}

pub lookup_examples : LookupExamples
unfolding bundles refused_of picked_image has lookup_stop bundle_of answering lookup lookup_image
lookup_examples = record {
  by_patch = refl;
  by_patch_image = refl;
  by_main = refl;
  by_main_image = refl;
  no_patch = refl;
  empty_image = refl;
  empty_image_part = refl;
  either_kind = refl;
  query = refl;
  none = refl;
  patch_refused = refl;
  main_refused = refl;
  main_overlaps = refl;
  before_query = refl;
  no_part = refl;
}

pub compare_examples : CompareExamples
unfolding bundles common overwrite joined flattened met with_id left_against right_against differences_of decimal_of decimal line printed last_line difference_lines refused_line refused_by differences input_stop report reported
compare_examples = record {
  whole = refl;
  whole_length = refl;
  shorter = refl;
  empty_image = refl;
  same = refl;
  none = refl;
  left = refl;
  right = refl;
  spellings = refl;
  both_refused = refl;
  right_refused = refl;
  mixed = refl;
  overlaps = refl;
  no_room = refl;
  room = refl;
}
