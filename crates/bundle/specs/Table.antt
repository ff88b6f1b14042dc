-- The table of a bundle, as it is read. Definitions only.
use Rattle.std.specs.Prelude.{ℕ, zero, suc, ◌+◌, List, take, drop}
use Rattle.wire.specs.Bytes.{bytes}
use Rattle.wire.specs.Word.{word}

-- a row: where the image starts, its size, the ID as spelled
pub record Row : Type 0 where
  pub offset : ℕ
  pub size : ℕ
  pub id : List ℕ

unfoldable pub magic : List ℕ
magic = bytes "__CLANG_OFFLOAD_BUNDLE__"

-- "the 24 bytes ..; an 8-byte entry count"
unfoldable pub count : List ℕ → ℕ
count s = word 8 s 24

-- where row i starts: "then for each entry" 24 bytes and the ID, and "each entry's own length decides"
unfoldable pub row_start : List ℕ → ℕ → ℕ
row_start s zero = 32
row_start s (suc i) = let at = row_start s i in at + 24 + word 8 s (at + 16)

-- "8-byte image offset, 8-byte image size, 8-byte ID length, and the ID with no ending zero"
unfoldable pub row_at : List ℕ → ℕ → Row
row_at s at = record { offset = word 8 s at; size = word 8 s (at + 8); id = take (word 8 s (at + 16)) (drop (at + 24) s) }

unfoldable pub row : List ℕ → ℕ → Row
row s i = row_at s (row_start s i)

-- "Table end is the byte after the last ID"
unfoldable pub table_end : List ℕ → ℕ
table_end s = row_start s (count s)
