-- The bundle writer's records that nothing refuses, and that what it writes reads back. Assumes nothing.
use Prim.Native.Nat.{ℕ, ◌≤◌}
use mathlib.Core.Path.{◌≡◌, ap, ◌∙◌}
use mathlib.Core.List.{List}
use lib.ListN.{length, get_or}
use borrow.Author.Tests.{ltb-false}
use Rattle.wire.specs.Limit.{limit}
use Rattle.wire.specs.Stop.{go, unrefused, output}
use Rattle.wire.proofs.StopLaws.{⨾-next, ⨾-left, ⨾-right, stop_if_no}
use Rattle.entry_id.specs.IdRules.{IdRules, Lawful}
use Rattle.bundle.specs.Accepted.{Sound}
use Rattle.bundle.specs.Entry.{Entry, no_entry}
use Rattle.bundle.specs.Records.{rows_of, records_stop}
use Rattle.bundle.specs.Layout.{packed_length, encode, Writable, ReadsBack}
use Rattle.bundle.specs.Normal.{room_stop, answer}
use Rattle.bundle.specs.Writer.{entries_given, write_stop, write, written_to, WriterReadsBack, WritesRead}
use Rattle.bundle.specs.declared.EntryRecord.{EntryRecord}
use Rattle.bundle.proofs.AcceptLaws.{sound}
use Rattle.bundle.proofs.EntryLaws.{entries_at, entries_writable}
use Rattle.bundle.proofs.PackLaws.{length-encode, encode-reads_back}
use Rattle.bundle.proofs.NormalLaws.{room_stop-go}

module _ (R : IdRules) (n : ℕ) (records : List EntryRecord) (ids images : List ℕ) where
  -- records that 3 to 8 do not refuse
  module _ (e : (records_stop R ids (length images) n records).number ≡ 0) where
    pub records_few : n ≤ 64
    unfolding records_stop
    records_few = ltb-false _ _ (stop_if_no 2 _ (⨾-left _ _ e))

    pub records_sound : Sound R 0 (length images) n (rows_of ids records)
    unfolding records_stop
    records_sound = (sound R _ 0 (length images) n (rows_of ids records) (⨾-right _ _ (⨾-right _ _ e))).0

  -- ---- what was written

  module _ (L : Lawful R) (out : List ℕ) (e : (write R n records ids images (length out)).number ≡ 0) where
    abbrev gs : List Entry
    gs = entries_given R n records ids images

    stopless : (write_stop R n records ids images (length out)).number ≡ 0
    unfolding write answer
    stopless = e

    records_fine : (records_stop R ids (length images) n records).number ≡ 0
    unfolding write_stop
    records_fine = ⨾-left _ _ stopless

    room_fine : (room_stop (packed_length gs) (length out)).number ≡ 0
    unfolding write_stop
    room_fine = ⨾-right _ _ stopless

    within : packed_length gs ≤ limit
    unfolding room_stop
    within = ltb-false _ _ (stop_if_no 10 _ (⨾-left _ _ room_fine))

    enough : packed_length gs ≤ length out
    unfolding room_stop
    enough = ltb-false _ _ (stop_if_no 11 _ (⨾-right _ _ room_fine))

    writable : Writable R gs
    writable = entries_writable R images n (rows_of ids records) L (records_few records_fine) (records_sound records_fine).meant

    back : ReadsBack R gs (encode gs)
    back = encode-reads_back R L gs writable within

    goes_all : write_stop R n records ids images (length out) ≡ go
    unfolding write_stop
    goes_all = ⨾-next (records_stop R ids (length images) n records) _ records_fine ∙ room_stop-go (packed_length gs) (length out) within enough

    pub writer_reads_back : WriterReadsBack R n records ids images out
    unfolding write written_to answer unrefused output
    writer_reads_back = record {
      written = rw goes_all;
      returned = rw (goes_all, length-encode gs);
      reads_back = back;
      each = λ i h. ap (λ es. get_or es i no_entry) back.entries_back ∙ entries_at R images n (rows_of ids records) i h;
    }

pub writes_read : (R : IdRules) → Lawful R → WritesRead R
writes_read R L n records ids images out e = writer_reads_back R n records ids images L out e
