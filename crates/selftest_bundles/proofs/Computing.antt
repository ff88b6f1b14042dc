-- What the definitions compute to: a proof that names one of these on its `unfolding` line opens all that stands on its own line.
-- Assumes nothing.
use Rattle.wire.specs.Bytes.{common, overwrite}
use Rattle.wire.specs.Lists.{total, joined, flattened, tab}
use Rattle.wire.specs.Bits.{bits_below, count_below}
use Rattle.wire.specs.First.{first, any_below}
use Rattle.wire.specs.Stop.{◌⨾◌, stop_when, stop_if, stop_at, earlier, unrefused, over, output}
use Rattle.bundle.specs.Table.{magic, count, row_start, row_at, row, table_end}
use Rattle.bundle.specs.Check.{bad_row, outside, share_byte, same_span, overlaps, overlap_stop, head_stop, table_stop, refused_of, bad_id, mean_same, mix, rows_stop, bundle_stop, check}
use Rattle.bundle.specs.Pick.{compatible_at, chosen, pick_stop, pick, picked_image}
use Rattle.bundle.specs.Each.{part_of, slot_of, pick_at, each_stop, slots_after}
use Rattle.bundle.specs.Lookup.{numbers_of, has, lookup_stop, bundle_of, answering, lookup, lookup_image}
use Rattle.bundle.specs.Differences.{met, with_id, left_against, right_against, differences_of, decimal_of, decimal, line, printed, last_line, difference_lines, refused_line, refused_by, differences, input_stop, report, reported}
use Rattle.bundle.specs.EntryAt.{entry_stop, entry_at}
use Rattle.bundle.specs.Entry.{image_of, entry_of, entries_of}
use Rattle.bundle.specs.Layout.{row_bytes, table, bundle, packed_end, packed_length, images, packed, encode}
use Rattle.bundle.specs.Normal.{room_stop, answer, normal, normal_length, normalise_stop, normalise, normalised}
use Rattle.bundle.specs.Records.{record_at, row_of, rows_of, bad_part, records_stop}
use Rattle.bundle.specs.Writer.{write_stop, write, written_to}
use Rattle.selftest_ids.proofs.Computing.{ids}
use Rattle.selftest_bundles.proofs.EachCase.{slots_took, answer_of, by_slots}

-- the check, the pick, entries and the normal form of a bundle
unfoldable pub bundles : Unit {0}
unfolding ids total tab first any_below ◌⨾◌ stop_when stop_if stop_at earlier magic count row_start row_at row table_end bad_row outside share_byte same_span overlaps overlap_stop head_stop table_stop unrefused bad_id mean_same mix rows_stop bundle_stop check compatible_at chosen pick_stop pick entry_stop entry_at image_of entry_of entries_of row_bytes table bundle packed_end packed_length images packed encode room_stop answer over output normal normal_length normalise_stop normalise normalised record_at row_of rows_of bad_part records_stop write_stop write written_to
bundles = tt

-- the pick for each of several device names
unfoldable pub each : Unit {0}
unfolding bundles bits_below count_below part_of slot_of pick_at each_stop slots_after slots_took answer_of by_slots
each = tt

-- the lookup in two bundles
unfoldable pub lookups : Unit {0}
unfolding bundles refused_of picked_image numbers_of has lookup_stop bundle_of answering lookup lookup_image
lookups = tt

-- the report on two bundles
unfoldable pub reports : Unit {0}
unfolding bundles common overwrite joined flattened met with_id left_against right_against differences_of decimal_of decimal line printed last_line difference_lines refused_line refused_by differences input_stop report reported
reports = tt
