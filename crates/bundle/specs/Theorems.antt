-- What holds of the check and the pick, whatever the bytes. Statements only; `proofs/Theorems` proves each, `proofs/PlaceLaws` the places,
-- `proofs/OverlapLaws` what is said of overlaps.
use Rattle.std.specs.Prelude.{ℕ, suc, ◌+◌, ◌<◌, ◌≤◌, ◌≡◌, ◌↔◌, Bool, true, false, List, length, get_or, take, drop}
use Rattle.wire.specs.Bytes.{empty}
use Rattle.entry_id.specs.IdRules.{IdRules}
use Rattle.bundle.specs.Table.{Row, count, row_start, row, table_end}
use Rattle.wire.specs.Stop.{◌⨾◌}
use Rattle.bundle.specs.Check.{bad_row, bad_id, outside, overlaps, mean_same, mix, head_stop, table_stop, check}
use Rattle.bundle.specs.Entry.{no_entry, entries}
use Rattle.bundle.specs.Pick.{compatible_at, pick}
use Rattle.bundle.specs.Accepted.{Framed, Accepted}
use Rattle.bundle.specs.declared.Picked.{Picked}

-- "a bundle is accepted when none of 1 to 8 [and 21] applies, which is exactly when the check returns OK"
pub record CheckExact (R : IdRules) (s : List ℕ) : Type 0 where
  pub accepted : ((check R s).number ≡ 0) ↔ Accepted R s
  -- "An accepted call has place 0; a bundle check also returns the entry count"
  pub counted : Accepted R s → check R s ≡ record { number = 0; place = 0; count = count s }
  -- "A refusal .. has 0 in every other returned number"
  pub uncounted : (k : ℕ) → (check R s).number ≡ suc k → (check R s).count ≡ 0

-- i is the lowest entry index, of n, that a refusal applies to
pub record Lowest (applies : ℕ → Type 0) (n i : ℕ) : Type 0 where
  pub entry : i < n
  pub here : applies i
  pub lower : (k : ℕ) → k < i → applies k → ⊥

-- "an earlier entry" stands in the relation to entry i
pub record Earlier (related : Row → Row → Bool) (rows : ℕ → Row) (i : ℕ) : Type 0 where
  pub other : ℕ
  pub before : other < i
  pub are : related (rows other) (rows i) ≡ true

-- "each of 4 to 8 [and 21, between 6 and 7] is tried over all entries before the next, and the place is the lowest entry index it applies to"
pub record PlaceExact (R : IdRules) (s : List ℕ) : Type 0 where
  pub table : (check R s).number ≡ 4 → Lowest (λ i. bad_row s (row_start s i) ≡ true) (count s) (check R s).place
  pub id : (check R s).number ≡ 5 → Lowest (λ i. bad_id R (row s i) ≡ true) (count s) (check R s).place
  pub range : (check R s).number ≡ 6 → Lowest (λ i. outside (table_end s) (length s) (row s i).offset (row s i).size ≡ true) (count s) (check R s).place
  pub overlap : (check R s).number ≡ 21 → Lowest (Earlier overlaps (row s)) (count s) (check R s).place
  pub twice : (check R s).number ≡ 7 → Lowest (Earlier (mean_same R) (row s)) (count s) (check R s).place
  pub mixed : (check R s).number ≡ 8 → Lowest (Earlier (mix R) (row s)) (count s) (check R s).place

-- a byte of both images
pub record Shared (r q : Row) : Type 0 where
  pub at : ℕ
  pub in_first : (r.offset ≤ at) × (at < r.offset + r.size)
  pub in_second : (q.offset ≤ at) × (at < q.offset + q.size)

abbrev pub SameSpan : Row → Row → Type 0
SameSpan r q = (r.offset ≡ q.offset) × (r.size ≡ q.size)

-- "shares a byte .. without being the same span (lying wholly inside it or around it counts)"
abbrev pub OverlapExact : Type 0
OverlapExact = (r q : Row) → (overlaps r q ≡ true) ↔ (Shared r q × (SameSpan r q → ⊥))

-- "two images of size above 0 are either the same span or share no byte": images of any two entries that share a byte are the same span
abbrev pub ImagesApart : IdRules → Type 0
ImagesApart R = (s : List ℕ) → Accepted R s → (i j : ℕ) → i < count s → j < count s → Shared (row s i) (row s j) → SameSpan (row s i) (row s j)

-- a pick's refusal
abbrev pub refusal : ℕ → ℕ → Picked
refusal number place = record { number = number; place = place; index = 0; position = 0; size = 0 }

-- the pick of entry i
abbrev pub image_at : List ℕ → ℕ → Picked
image_at s i = record { number = 0; place = 0; index = i; position = (row s i).offset; size = (row s i).size }

-- the bundle is accepted, the device name keeps the ID rules
pub record Asked (R : IdRules) (s device : List ℕ) : Type 0 where
  pub bundle : Accepted R s
  pub name : empty (R.canon device) ≡ false

-- "a pick on it gives the image of its one compatible entry, QUERY or NONE, each exactly in its own case"
pub record PickExact (R : IdRules) (s device : List ℕ) : Type 0 where
  -- "A pick checks 1 to 8 [and 21]": what the check refuses, with its number and place
  pub refused : (k : ℕ) → (check R s).number ≡ suc k → pick R s device ≡ refusal (check R s).number (check R s).place
  pub query : (pick R s device ≡ refusal 9 0) ↔ (Accepted R s × (empty (R.canon device) ≡ true))
  pub none : (pick R s device ≡ refusal 10 0) ↔ (Asked R s device × ((i : ℕ) → i < count s → compatible_at R s device i ≡ false))
  pub image : (i : ℕ) → (pick R s device ≡ image_at s i) ↔ (Asked R s device × ((i < count s) × (compatible_at R s device i ≡ true)))
  -- there is no second compatible entry
  pub one : Asked R s device → (i j : ℕ) → i < count s → j < count s → compatible_at R s device i ≡ true → compatible_at R s device j ≡ true → i ≡ j
  -- the image lies inside, after the table, and its bytes are the entry's
  pub after : (pick R s device).number ≡ 0 → table_end s ≤ (pick R s device).position
  pub within : (pick R s device).number ≡ 0 → (pick R s device).position + (pick R s device).size ≤ length s
  pub bytes : (pick R s device).number ≡ 0 → take (pick R s device).size (drop (pick R s device).position s) ≡ (get_or (entries R s) (pick R s device).index no_entry).image

-- "If a bundle passes 1 to 4, it and any bundle of the same length that agrees with it in every byte before its table end
-- get the same answers from the check and from every pick, refusals included, whatever their images hold."
pub record SameAnswers (R : IdRules) (s t : List ℕ) : Type 0 where
  pub checks : check R s ≡ check R t
  pub picks : (device : List ℕ) → pick R s device ≡ pick R t device

-- "passes 1 to 4"
abbrev pub FramedExact : List ℕ → Type 0
FramedExact s = ((head_stop s ⨾ table_stop s).number ≡ 0) ↔ Framed s

abbrev pub TableDecides : IdRules → Type 0
TableDecides R = (s t : List ℕ) → Framed s → length s ≡ length t → take (table_end s) s ≡ take (table_end s) t → SameAnswers R s t
