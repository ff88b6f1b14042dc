-- When a bundle is accepted, rule by rule. A field's comment says which refusal it rules out. Statements only.
use Rattle.std.specs.Prelude.{ℕ, ◌+◌, ◌<◌, ◌≤◌, ◌≡◌, false, List, length, take}
use Rattle.wire.specs.Limit.{limit}
use Rattle.wire.specs.Word.{word}
use Rattle.entry_id.specs.IdRules.{IdRules}
use Rattle.bundle.specs.Table.{Row, magic, count, row_start, row, table_end}
use Rattle.bundle.specs.Check.{bad_id, overlaps, mean_same, mix}

-- the row that starts at `from` is wholly inside, with an ID of 1 to 256 bytes
pub record RowFits (s : List ℕ) (from : ℕ) : Type 0 where
  pub head_in : from + 24 ≤ length s
  pub id_some : 1 ≤ word 8 s (from + 16)
  pub id_short : word 8 s (from + 16) ≤ 256
  pub id_in : from + 24 + word 8 s (from + 16) ≤ length s

-- an image lies after the table and in the container, of `len` bytes
pub record Inside (end len offset size : ℕ) : Type 0 where
  pub after : end ≤ offset
  pub within : offset + size ≤ len

pub record Framed (s : List ℕ) : Type 0 where
  -- 1
  pub fits : length s ≤ limit
  -- 2
  pub magical : take 24 s ≡ magic
  -- 3
  pub long : 32 ≤ length s
  pub few : count s ≤ 64
  -- 4
  pub rows : (i : ℕ) → i < count s → RowFits s (row_start s i)

-- of n rows
pub record Meant (R : IdRules) (n : ℕ) (rows : ℕ → Row) : Type 0 where
  -- 5
  pub named : (i : ℕ) → i < n → bad_id R (rows i) ≡ false
  -- 7
  pub once : (i : ℕ) → i < n → (j : ℕ) → j < i → mean_same R (rows j) (rows i) ≡ false
  -- 8
  pub unmixed : (i : ℕ) → i < n → (j : ℕ) → j < i → mix R (rows j) (rows i) ≡ false

pub record Sound (R : IdRules) (end len n : ℕ) (rows : ℕ → Row) : Type 0 where
  -- 5, 7 and 8
  pub meant : Meant R n rows
  -- 6
  pub in_range : (i : ℕ) → i < n → Inside end len (rows i).offset (rows i).size

-- of n rows, no image overlaps an earlier one
abbrev pub Apart : ℕ → (ℕ → Row) → Type 0
Apart n rows = (i : ℕ) → i < n → (j : ℕ) → j < i → overlaps (rows j) (rows i) ≡ false

pub record Accepted (R : IdRules) (s : List ℕ) : Type 0 where
  -- 1 to 4
  pub frame : Framed s
  -- 5 to 8
  pub sense : Sound R (table_end s) (length s) (count s) (row s)
  -- 21
  pub apart : Apart (count s) (row s)
