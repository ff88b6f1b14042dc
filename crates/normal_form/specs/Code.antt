-- What the code that writes holds between its steps: entries, their order and what is written of them. Of the public functions `no_entries`, `rising_order` and
-- `sorted_entries` alone, which one crate lends another, rest on this file.
use Rattle.std.specs.Prelude.{ℕ, ◌<◌, ◌≤◌, ◌≡◌, min, Result, Ok, Err, List, length, map}
use mathlib.Core.List.{[], Memᴰ}
use Rattle.wire.specs.Limit.{limit}
use Rattle.wire.specs.Lists.{tab}
use Rattle.wire.specs.declared.Refusal.{Refusal}
use Rattle.wire.specs.declared.Reason.TheVariants.{Big}
use Rattle.bundle.specs.Entry.{Entry, image_of}
use Rattle.bundle.specs.Records.{record_at, row_of}
use Rattle.entry_id.specs.IdRules.{IdRules}
use Rattle.bundle_reader.specs.Examined.{id_at}
use Rattle.bundle_reader.specs.Slots.{Examination}
use Rattle.bundle_reader.specs.declared.Examined.{Examined}
use Rattle.bundle.specs.Layout.{packed_end, packed_length}
use Rattle.bundle.specs.declared.EntryRecord.{EntryRecord}
use Rattle.normal_form.specs.declared.Entry.{Entry as Held}
use Rattle.normal_form.specs.declared.Lengths.{Lengths}

-- ---- entries as the code holds them: parts of buffers

-- one with no bytes
abbrev pub no_held : Held
no_held = record { id = record { ref_ptr = (0, 0); now = [] }; image = record { ref_ptr = (0, 0); now = [] } }

abbrev pub id_of : Held → List ℕ
id_of e = e.id.now

abbrev pub value : Held → Entry
value e = record { id = e.id.now; image = e.image.now }

abbrev pub values : List Held → List Entry
values es = map value es

-- no ID is too long
abbrev pub Short : List Held → Type 0
Short es = (e : Held) → Memᴰ e es → length e.id.now ≤ 256

-- ---- records of entries, with canonical IDs beside them, and images in a buffer

unfoldable pub entry_at : List ℕ → List EntryRecord → List (List ℕ) → ℕ → Entry
entry_at src records ids i = record { id = id_at ids i; image = image_of src (row_of [] (record_at records i)) }

-- the first n
unfoldable pub first_given : ℕ → List ℕ → List EntryRecord → List (List ℕ) → List Entry
first_given n src records ids = tab n (entry_at src records ids)

abbrev pub given : List ℕ → List EntryRecord → List (List ℕ) → List Entry
given src records ids = first_given (length records) src records ids

-- as many as there are IDs and places for
abbrev pub listed : List EntryRecord → List (List ℕ) → ℕ → ℕ
listed records ids room = min (min (length records) (length ids)) room

-- a bundle that was examined, and is not refused
pub record Read (R : IdRules) (s : List ℕ) (e : Examined) (ids : List (List ℕ)) : Type 0 where
  pub says : Examination R s e ids
  pub rows_room : length e.rows ≡ 64

-- ---- lengths

-- where the table of entries ends, and the length of their packed form; BIG where that is above the limit
abbrev pub Measured : List Entry → Result Lengths Refusal → Type 0
Measured es (Ok m) = (m.end ≡ packed_end es) × (m.all ≡ packed_length es) × (packed_length es ≤ limit)
Measured es (Err r) = (r ≡ record { reason = Big; place = 0 }) × (limit < packed_length es)
