-- What the code holds of a bundle between its steps. No public promise rests on this file.
use Rattle.std.specs.Prelude.{ℕ, ◌+◌, ◌<◌, ◌≤◌, ◌≡◌, Bool, false, cond, eqb, List, [], length, get_or, Option, Some, None, Result, Ok, Err}
use Rattle.std.specs.List.{position}
use Rattle.std.specs.Option.{ok_or}
use Rattle.wire.specs.Bytes.{empty}
use Rattle.wire.specs.First.{first, any_below}
use Rattle.wire.specs.declared.Refusal.{Refusal}
use Rattle.wire.specs.declared.Reason.TheVariants as reasons
use Rattle.entry_id.specs.Canonical.{head_key, compatible_text}
use Rattle.entry_id.specs.IdRules.{IdRules}
use Rattle.entry_id.specs.Rules.{id_rules}
use Rattle.bundle.specs.Each.{part_of}
use Rattle.bundle.specs.Accepted.{Accepted}
use Rattle.bundle.specs.Table.{Row, count, row}
use Rattle.bundle.specs.Records.{record_at, row_of, rows_of}
use Rattle.bundle.specs.declared.EntryRecord.{EntryRecord}
use Rattle.bundle.specs.declared.Image.{Image}
use Rattle.bundle_reader.specs.Examined.{id_at}
use Rattle.bundle_reader.specs.declared.Examined.{Examined}

-- the first of n places with a property, if any
unfoldable pub first_found : ℕ → (ℕ → Bool) → Option ℕ
first_found n p = cond (any_below n p) (Some (first n p)) None

-- the first ID with the number of ID i, or i
unfoldable pub near : List (List ℕ) → ℕ → ℕ
near ids i = first i (λ j. eqb (head_key (id_at ids j)) (head_key (id_at ids i)))

-- ---- images

-- the image of a row, as a row whose ID does not matter
abbrev pub image : EntryRecord → Row
image r = row_of [] r

abbrev pub images : List EntryRecord → ℕ → Row
images rows k = image (record_at rows k)

-- it ends within a container of `len` bytes; so do those of all rows
abbrev pub Within : ℕ → EntryRecord → Type 0
Within len r = r.image_start + r.image_len ≤ len

abbrev pub AllWithin : ℕ → List EntryRecord → Type 0
AllWithin len rows = (k : ℕ) → k < length rows → Within len (record_at rows k)

-- ---- the choice of an entry

-- by a device name's canonical form: 9 "the device name breaks the ID rules", 10 "no compatible entry"; else the first that is compatible
unfoldable pub choice : List (List ℕ) → List ℕ → Result ℕ Refusal
choice ids name =
    cond (empty name) (Err (record { reason = reasons.Query; place = 0 }))
    (ok_or (position (λ id. compatible_text id name) ids) (record { reason = reasons.None; place = 0 }))

-- the image of the entry chosen
abbrev pub image_of : List EntryRecord → Result ℕ Refusal → Result Image Refusal
image_of rows (Ok i) = Ok (record { index = i; position = (record_at rows i).image_start; size = (record_at rows i).image_len })
image_of rows (Err r) = Err r

-- for name k, a part of a buffer
unfoldable pub picked_at : List EntryRecord → List (List ℕ) → List ℕ → List (List ℕ) → ℕ → Result Image Refusal
picked_at rows ids buffer names k = image_of rows (choice ids (id_rules.canon (part_of buffer (get_or names k []))))

-- it takes entry i
abbrev pub takes : Result Image Refusal → ℕ → Bool
takes (Ok image) i = eqb image.index i
takes (Err _) i = false

-- ---- what examining leaves

-- of a bundle that is not refused: its rows, and their canonical IDs
pub record Examination (R : IdRules) (s : List ℕ) (e : Examined) (ids : List (List ℕ)) : Type 0 where
  pub sound : Accepted R s
  pub count_is : e.count ≡ count s
  pub few : e.count ≤ 64
  pub rows_are : (k : ℕ) → k < e.count → rows_of s e.rows k ≡ row s k
  pub ids_room : length ids ≡ 64
  pub ids_are : (k : ℕ) → k < e.count → id_at ids k ≡ R.canon (row s k).id

-- of records that are not refused: their canonical IDs
pub record Judged (R : IdRules) (buffer : List ℕ) (records : List EntryRecord) (ids : List (List ℕ)) : Type 0 where
  pub few : length records ≤ 64
  pub ids_room : length ids ≡ 64
  pub ids_are : (k : ℕ) → k < length records → id_at ids k ≡ R.canon (rows_of buffer records k).id
