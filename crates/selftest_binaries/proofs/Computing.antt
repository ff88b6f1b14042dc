-- What the definitions compute to: a proof that names one of these on its `unfolding` line opens all that stands on its own line.
-- Assumes nothing.
use Rattle.wire.specs.Bytes.{empty}
use Rattle.wire.specs.Lists.{total, joined, tab}
use Rattle.wire.specs.First.{first, any_below}
use Rattle.wire.specs.Stop.{◌⨾◌, stop_when, stop_if, stop_at, earlier, unrefused, over, output}
use Rattle.offload_binary.specs.Lists.{slots}
use Rattle.offload_binary.specs.Binary as binary
use Rattle.offload_binary.specs.Contents as contents
use Rattle.offload_binary.specs.Reader as reader
use Rattle.offload_binary.specs.Writer as writer
use Rattle.offload_binary.specs.Recovery as recovery
use Rattle.harness.specs.Fields.{step_numbers}
use Rattle.selftest_ids.proofs.Computing.{words}

-- offload binaries, by the reader and by the writer
unfoldable pub binaries : Unit {0}
unfolding words empty total tab first any_below ◌⨾◌ stop_when stop_if stop_at earlier slots binary.bytes_at binary.run binary.ended binary.size_of binary.entry_at binary.own binary.entry_of binary.key_at binary.text_at binary.string_at binary.pair binary.key binary.bad_head binary.bad_span binary.bad_kinds binary.bad_table binary.bad_string binary.bad_pair binary.bad_strings binary.bad_image binary.body_stop binary.binary_stop binary.key_in binary.equal_keys binary.hands_back binary.binary binary.binary_at contents.key_text contents.contents contents.field_bytes contents.texts contents.string_bytes contents.offsets contents.up8 contents.zeros contents.strings_start contents.strings_end contents.image_start contents.image_end contents.binary_size contents.head_fields contents.written contents.key_of contents.bad_text contents.bad_key_texts contents.too_big reader.past reader.next_stop reader.next reader.cursor_after reader.answer writer.bad_part writer.bad_pair writer.bad_pairs writer.given writer.write_stop writer.write step_numbers
binaries = tt

-- and recovered
unfoldable pub recovered : Unit {0}
unfolding binaries joined unrefused over output reader.end_to_end recovery.passes recovery.lowest recovery.takes recovery.taken recovery.gap recovery.skips recovery.skipped recovery.copied recovery.recover_stop recovery.recover recovery.copied_to recovery.skipped_to
recovered = tt
