-- Entry records: the rows that they stand for, and what refuses a list of them. Definitions only.
use Rattle.std.specs.Prelude.{ℕ, ◌+◌, Bool, not, ◌&&◌, List, leb, ltb, length, get_or, take, drop}
use Rattle.wire.specs.Stop.{Stop, go, ◌⨾◌, stop_if, stop_at}
use Rattle.entry_id.specs.IdRules.{IdRules}
use Rattle.bundle.specs.Table.{Row}
use Rattle.bundle.specs.Check.{rows_stop}
use Rattle.bundle.specs.declared.EntryRecord.{EntryRecord}

abbrev pub no_record : EntryRecord
no_record = record { id_start = 0; id_len = 0; image_start = 0; image_len = 0 }

-- record i of a list
unfoldable pub record_at : List EntryRecord → ℕ → EntryRecord
record_at records i = get_or records i no_record

-- "each naming a part of a buffer of IDs and a part of a buffer of images": the row that a record stands for
unfoldable pub row_of : List ℕ → EntryRecord → Row
row_of ids r = record { offset = r.image_start; size = r.image_len; id = take r.id_len (drop r.id_start ids) }

unfoldable pub rows_of : List ℕ → List EntryRecord → ℕ → Row
rows_of ids records i = row_of ids (record_at records i)

-- "4 (ID part outside its buffer or of bad length)", of a buffer of `room` bytes
unfoldable pub bad_part : ℕ → EntryRecord → Bool
bad_part room r = not (leb 1 r.id_len && leb r.id_len 256 && leb (r.id_start + r.id_len) room)

-- "3 (over 64 records), 4 .., 5, 6 (image part outside its buffer), 7, 8 .. over all records and with places in the same way": of n records, and a
-- buffer of images of `len` bytes
unfoldable pub records_stop : IdRules → List ℕ → ℕ → ℕ → List EntryRecord → Stop
records_stop R ids len n records =
    stop_if 3 (ltb 64 n)
    ⨾ stop_at 4 n (λ i. bad_part (length ids) (record_at records i))
    ⨾ rows_stop R go 0 len n (rows_of ids records)
