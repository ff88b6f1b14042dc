-- The bundle writer: what refuses its records, what it returns and writes. Definitions, and the statement that what it writes reads back.
use Rattle.std.specs.Prelude.{ℕ, ◌<◌, ◌≡◌, List, length, get_or}
use Rattle.wire.specs.Stop.{Stop, ◌⨾◌, over, output}
use Rattle.entry_id.specs.IdRules.{IdRules}
use Rattle.bundle.specs.Entry.{Entry, no_entry, entry_of, entries_of, entries}
use Rattle.bundle.specs.Records.{rows_of, records_stop}
use Rattle.bundle.specs.Layout.{packed_length, encode, ReadsBack}
use Rattle.bundle.specs.Normal.{room_stop, answer}
use Rattle.bundle.specs.declared.EntryRecord.{EntryRecord}
use Rattle.bundle.specs.declared.Written.{Written}

-- of the first n records of a list
module _ (R : IdRules) (n : ℕ) (records : List EntryRecord) (ids images : List ℕ) where
  -- the entries given: "It .. keeps the given order, and writes IDs in canonical form."
  abbrev pub entries_given : List Entry
  entries_given = entries_of R images n (rows_of ids records)

  -- "The bundle writer checks 3 .., 4 .., 5, 6 .., 7, 8, 11, 12"
  unfoldable pub write_stop : ℕ → Stop
  write_stop room = records_stop R ids (length images) n records ⨾ room_stop (packed_length entries_given) room

  -- number, place and length, for an output of `room` bytes
  unfoldable pub write : ℕ → Written
  write room = answer (write_stop room) (packed_length entries_given)

  -- the lent output afterwards: "It uses the same packing"
  unfoldable pub written_to : List ℕ → List ℕ
  written_to out = output (write_stop (length out)) (encode entries_given) out

  -- what is written is accepted, and holds the entries given, in the order given
  pub record WriterReadsBack (out : List ℕ) : Type 0 where
    pub written : written_to out ≡ over (encode entries_given) out
    pub returned : write (length out) ≡ record { number = 0; place = 0; length = length (encode entries_given) }
    pub reads_back : ReadsBack R entries_given (encode entries_given)
    pub each : (i : ℕ) → i < n → get_or (entries R (encode entries_given)) i no_entry ≡ entry_of R images (rows_of ids records i)

-- of every call that is not refused
abbrev pub WritesRead : IdRules → Type 0
WritesRead R = (n : ℕ) (records : List EntryRecord) (ids images out : List ℕ) → (write R n records ids images (length out)).number ≡ 0 → WriterReadsBack R n records ids images out
