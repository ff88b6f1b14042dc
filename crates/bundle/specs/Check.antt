-- The check of a bundle: refusals 1 to 8 and 21 in the order of RULES 3.5, with their places (RULES 7), for every `IdRules`. Definitions only.
-- Sums are sums of natural numbers: none wraps.
use Rattle.std.specs.Prelude.{ℕ, zero, suc, ◌+◌, Bool, not, ◌&&◌, ◌||◌, List, length, take, leb, ltb, eqb}
use Rattle.wire.specs.Limit.{limit}
use Rattle.wire.specs.Bytes.{same, empty}
use Rattle.wire.specs.Word.{word}
use Rattle.wire.specs.Stop.{Stop, ◌⨾◌, stop_if, stop_at, earlier, unrefused}
use Rattle.entry_id.specs.IdRules.{IdRules}
use Rattle.bundle.specs.Table.{Row, magic, count, row_start, row, table_end}
use Rattle.bundle.specs.declared.Checked.{Checked}

-- TABLE of the row that starts at `from`: "an entry's 24 bytes or its ID not wholly inside; ID length 0 or above 256"
unfoldable pub bad_row : List ℕ → ℕ → Bool
bad_row s from =
    let len = word 8 s (from + 16) in
    not (leb (from + 24) (length s) && leb 1 len && leb len 256 && leb (from + 24 + len) (length s))

-- RANGE of an image: "image offset before table end, or offset + size above the length"
unfoldable pub outside : ℕ → ℕ → ℕ → ℕ → Bool
outside end len offset size = ltb offset end || ltb len (offset + size)

-- "share .. byte": neither image is empty, and each starts before the other ends
unfoldable pub share_byte : Row → Row → Bool
share_byte r q = ltb 0 r.size && ltb 0 q.size && ltb r.offset (q.offset + q.size) && ltb q.offset (r.offset + r.size)

-- "the same span"
unfoldable pub same_span : Row → Row → Bool
same_span r q = eqb r.offset q.offset && eqb r.size q.size

-- "two images of size above 0 are either the same span or share no byte": these two are neither
unfoldable pub overlaps : Row → Row → Bool
overlaps r q = share_byte r q && not (same_span r q)

-- 21 OVERLAP: "the lowest index whose image shares a byte with an earlier one's without being the same span"
unfoldable pub overlap_stop : ℕ → (ℕ → Row) → Stop
overlap_stop n rows = stop_at 21 n (earlier overlaps rows)

-- 1 LENGTH "container above the size limit"; 2 MAGIC "under 24 bytes, or the first 24 differ";
-- 3 COUNT "under 32 bytes, or count above 64"
unfoldable pub head_stop : List ℕ → Stop
head_stop s =
    stop_if 1 (ltb limit (length s))
    ⨾ stop_if 2 (not (same (take 24 s) magic))
    ⨾ stop_if 3 (ltb (length s) 32 || ltb 64 (count s))

-- 4 TABLE
unfoldable pub table_stop : List ℕ → Stop
table_stop s = stop_at 4 (count s) (λ i. bad_row s (row_start s i))

-- "names the bundle by the same number": of two bundles that are checked one after the other, 1 where the first is refused, 2 where only the second is;
-- else `other`
unfoldable pub refused_of : Stop → Stop → ℕ → ℕ
refused_of first second other = elim first.number [ zero ↦ elim second.number [ zero ↦ other | suc k ↦ 2 ] | suc k ↦ 1 ]

module _ (R : IdRules) where
  -- ID: "an ID breaks the rules"
  unfoldable pub bad_id : Row → Bool
  bad_id r = empty (R.canon r.id)

  -- "the same meaning"
  unfoldable pub mean_same : Row → Row → Bool
  mean_same r q = R.same_meaning (R.canon r.id) (R.canon q.id)

  -- "of equal kind, triple and processor", and "states other feature names"
  unfoldable pub mix : Row → Row → Bool
  mix r q = R.mixed (R.canon r.id) (R.canon q.id)

  -- 5 ID; 6 RANGE; then what `between` refuses; 7 TWICE "an earlier entry has the same meaning"; 8 MIXED: "each .. is tried over all entries before the next".
  -- Of n rows, in a container of `len` bytes whose table ends at `end`.
  unfoldable pub rows_stop : Stop → ℕ → ℕ → ℕ → (ℕ → Row) → Stop
  rows_stop between end len n rows =
      stop_at 5 n (λ i. bad_id (rows i))
      ⨾ stop_at 6 n (λ i. outside end len (rows i).offset (rows i).size)
      ⨾ between
      ⨾ stop_at 7 n (earlier mean_same rows)
      ⨾ stop_at 8 n (earlier mix rows)

  -- 1 to 8, with 21 after 6
  unfoldable pub bundle_stop : List ℕ → Stop
  bundle_stop s = head_stop s ⨾ table_stop s ⨾ rows_stop (overlap_stop (count s) (row s)) (table_end s) (length s) (count s) (row s)

  -- "An accepted call has place 0; a bundle check also returns the entry count"
  unfoldable pub check : List ℕ → Checked
  check s = let t = bundle_stop s in record { number = t.number; place = t.place; count = unrefused t (count s) }
