-- The examples on offload binaries, by computation. Assumes nothing.
use mathlib.Core.Path.{refl}
use Rattle.wire.specs.Lists.{tab}
use Rattle.wire.specs.Word.{bytes_of, word, word_of}
use Rattle.wire.specs.Bytes.{same, empty}
use Rattle.wire.specs.First.{first, any_below}
use Rattle.wire.specs.Stop.{◌⨾◌, stop_if, stop_when, earlier}
use Rattle.offload_binary.specs.Lists.{slots}
use Rattle.offload_binary.specs.Binary.{bytes_at, run, ended, size_of, entry_at, own, entry_of, key_at, text_at, string_at, pair, key, bad_head, bad_span, bad_kinds, bad_table, bad_string, bad_pair, bad_strings, bad_image, body_stop, binary_stop, hands_back, binary}
use Rattle.offload_binary.specs.Contents.{field_bytes, texts, string_bytes, offsets, up8, zeros, strings_start, strings_end, image_start, image_end, binary_size, head_fields, written}
use Rattle.offload_binary.specs.Reader.{past, next_stop, next, cursor_after, answer, binaries_only, accepted}
use Rattle.offload_binary.specs.Examples.{BinaryExamples}

pub pieces : BinaryExamples
unfolding bytes_of word word_of same empty first any_below ◌⨾◌ stop_if stop_when earlier tab slots bytes_at run ended size_of entry_at own entry_of key_at text_at string_at pair key bad_head bad_span bad_kinds bad_table bad_string bad_pair bad_strings bad_image body_stop binary_stop hands_back binary field_bytes texts string_bytes offsets up8 zeros strings_start strings_end image_start image_end binary_size head_fields written past next_stop next cursor_after answer binaries_only accepted
pieces = record {
  bare_accepted = refl;
  accepted_both = refl;
  image_place = refl;
  table_place = refl;
  short = refl;
  wrong_magic = refl;
  version = refl;
  size_small = refl;
  size_large = refl;
  entry_size_lem = refl;
  entry_low = refl;
  entry_high = refl;
  entry_wraps = refl;
  image_kind_lem = refl;
  offload_kind_lem = refl;
  flags_free = refl;
  many_strings = refl;
  table_low = refl;
  table_high = refl;
  key_low = refl;
  key_at_end = refl;
  key_past_end = refl;
  key_empty = refl;
  text_empty = refl;
  image_low = refl;
  image_high = refl;
  image_whole = refl;
  image_wraps = refl;
  sixty_four = refl;
  sixty_five = refl;
}
