-- Bundles as they are written: the bytes of rows and of a bundle, the packed form of entries, and any other layout of them.
-- Definitions, and the statement that what is laid out reads back.
use Rattle.std.specs.Prelude.{ℕ, ◌+◌, ◌<◌, ◌≤◌, ◌≡◌, false, T, length, get_or, take, drop}
use mathlib.Core.List.{List, [], ◌∷◌, ◌++◌, Memᴰ}
use Rattle.wire.specs.Limit.{limit}
use Rattle.wire.specs.Bytes.{empty}
use Rattle.wire.specs.Lists.{total}
use Rattle.wire.specs.Order.{distinct_by}
use Rattle.wire.specs.Word.{bytes_of}
use Rattle.entry_id.specs.IdRules.{IdRules}
use Rattle.bundle.specs.Table.{Row, magic}
use Rattle.bundle.specs.Check.{check}
use Rattle.bundle.specs.Entry.{Entry, no_entry, entries}
use Rattle.bundle.specs.Accepted.{Apart, Accepted}

-- ---- bytes

-- "8-byte image offset, 8-byte image size, 8-byte ID length, and the ID with no ending zero"
unfoldable pub row_bytes : Row → List ℕ
row_bytes r = bytes_of 8 r.offset ++ bytes_of 8 r.size ++ bytes_of 8 (length r.id) ++ r.id

unfoldable pub table : List Row → List ℕ
table [] = []
table (r ∷ rs) = row_bytes r ++ table rs

-- a bundle with these rows, and `body` after its table
unfoldable pub bundle : List Row → List ℕ → List ℕ
bundle rs body = magic ++ bytes_of 8 (length rs) ++ table rs ++ body

-- ---- the packed form

-- a row's bytes, and all that an entry adds: "24 plus ID length plus image size"
abbrev pub row_size : Entry → ℕ
row_size e = 24 + length e.id

abbrev pub entry_size : Entry → ℕ
entry_size e = 24 + length e.id + length e.image

-- where the table of these entries ends
unfoldable pub packed_end : List Entry → ℕ
packed_end es = 32 + total row_size es

-- "Its length is 32 plus, for each entry, 24 plus ID length plus image size."
unfoldable pub packed_length : List Entry → ℕ
packed_length es = 32 + total entry_size es

-- "images packed directly after the table in entry order. A size-0 image takes the offset where it would have gone.": the images, and the
-- rows, the first image at `from`
unfoldable pub images : List Entry → List ℕ
images [] = []
images (e ∷ es) = e.image ++ images es

unfoldable pub packed : ℕ → List Entry → List Row
packed from [] = []
packed from (e ∷ es) = record { offset = from; size = length e.image; id = e.id } ∷ packed (from + length e.image) es

-- the packed form of entries, in their order
unfoldable pub encode : List Entry → List ℕ
encode es = bundle (packed (packed_end es) es) (images es)

-- ---- any layout

abbrev pub no_row : Row
no_row = record { offset = 0; size = 0; id = [] }

-- the row r, in a bundle whose table ends at `end`, names the entry e: its ID, and its image k bytes into the body
pub record Laid (end : ℕ) (body : List ℕ) (r : Row) (e : Entry) : Type 0 where
  pub id : r.id ≡ e.id
  pub size : r.size ≡ length e.image
  pub k : ℕ
  pub offset : r.offset ≡ end + k
  pub within : k + length e.image ≤ length body
  pub image : take (length e.image) (drop k body) ≡ e.image

-- one row for each entry names it, wherever in the body the images lie, if none overlaps another
pub record Layout (es : List Entry) (rs : List Row) (body : List ℕ) : Type 0 where
  pub one_each : length rs ≡ length es
  pub apart : Apart (length es) (λ i. get_or rs i no_row)
  pub laid : (i : ℕ) → i < length es → Laid (packed_end es) body (get_or rs i no_row) (get_or es i no_entry)

-- entries that can be written: their IDs are canonical, and neither 3 nor 7 nor 8 refuses them
pub record Writable (R : IdRules) (es : List Entry) : Type 0 where
  pub few : length es ≤ 64
  pub canonical : (e : Entry) → Memᴰ e es → R.canon e.id ≡ e.id
  pub some : (e : Entry) → Memᴰ e es → empty e.id ≡ false
  pub distinct : T (distinct_by (λ e. e.id) es)
  pub once : (e f : Entry) → Memᴰ e es → Memᴰ f es → (e.id ≡ f.id → ⊥) → R.same_meaning e.id f.id ≡ false
  pub unmixed : (e f : Entry) → Memᴰ e es → Memᴰ f es → (e.id ≡ f.id → ⊥) → R.mixed e.id f.id ≡ false

-- s is accepted, with as many entries, and they are these, in this order
pub record ReadsBack (R : IdRules) (es : List Entry) (s : List ℕ) : Type 0 where
  pub accepted : Accepted R s
  pub checked : check R s ≡ record { number = 0; place = 0; count = length es }
  pub entries_back : entries R s ≡ es

-- what is laid out reads back, in any layout
abbrev pub LayoutReadsBack : IdRules → Type 0
LayoutReadsBack R = (es : List Entry) (rs : List Row) (body : List ℕ) → Layout es rs body → Writable R es → length (bundle rs body) ≤ limit → ReadsBack R es (bundle rs body)
