-- The examples on recovery, by computation. Assumes nothing.
use mathlib.Core.Path.{refl}
use Rattle.wire.specs.Lists.{joined, tab}
use Rattle.wire.specs.Word.{bytes_of, word, word_of}
use Rattle.wire.specs.Bytes.{same}
use Rattle.wire.specs.First.{first, any_below}
use Rattle.wire.specs.Stop.{◌⨾◌, stop_if, stop_when, earlier, unrefused, over, output}
use Rattle.offload_binary.specs.Binary.{bytes_at, run, ended, size_of, entry_at, own, entry_of, key_at, text_at, string_at, key, bad_head, bad_span, bad_kinds, bad_table, bad_string, bad_pair, bad_strings, bad_image, body_stop, binary_stop}
use Rattle.offload_binary.specs.Contents.{field_bytes, texts, string_bytes, offsets, up8, zeros, strings_start, strings_end, image_start, image_end, binary_size, head_fields, written}
use Rattle.offload_binary.specs.Reader.{end_to_end}
use Rattle.offload_binary.specs.Recovery.{passes, lowest, takes, taken, gap, skips, skipped, copied, recover_stop, recover, copied_to, skipped_to}
use Rattle.offload_binary.specs.RecoveryExamples.{RecoveryExamples}

pub recovered : RecoveryExamples
unfolding joined tab bytes_of word word_of same first any_below ◌⨾◌ stop_if stop_when earlier unrefused over output bytes_at run ended size_of entry_at own entry_of key_at text_at string_at key bad_head bad_span bad_kinds bad_table bad_string bad_pair bad_strings bad_image body_stop binary_stop field_bytes texts string_bytes offsets up8 zeros strings_start strings_end image_start image_end binary_size head_fields written end_to_end passes lowest takes taken gap skips skipped copied recover_stop recover copied_to skipped_to
recovered = record {
  parts = refl;
  spans = refl;
  bytes = refl;
  enough = refl;
  short_output = refl;
  short_list = refl;
  list_written = refl;
  list_kept = refl;
  output_kept = refl;
  sound = refl;
  empty_sequence = refl;
  none = refl;
  reaches = refl;
  rest = refl;
  whole_outside = refl;
  broken_outside = refl;
  sixty_four = refl;
  sixty_five = refl;
}
