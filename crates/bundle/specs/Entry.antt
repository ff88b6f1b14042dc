-- The entries of a bundle. Definitions only.
use Rattle.std.specs.Prelude.{ℕ, List, [], take, drop}
use Rattle.entry_id.specs.IdRules.{IdRules}
use Rattle.wire.specs.Lists.{tab}
use Rattle.bundle.specs.Table.{Row, count, row}

-- an entry: its canonical ID and its image's bytes
pub record Entry : Type 0 where
  pub id : List ℕ
  pub image : List ℕ

abbrev pub no_entry : Entry
no_entry = record { id = []; image = [] }

-- the bytes that a row names: "Offsets count from the bundle's first byte"
unfoldable pub image_of : List ℕ → Row → List ℕ
image_of s r = take r.size (drop r.offset s)

unfoldable pub entry_of : IdRules → List ℕ → Row → Entry
entry_of R s r = record { id = R.canon r.id; image = image_of s r }

-- the entries of n rows with images in s
unfoldable pub entries_of : IdRules → List ℕ → ℕ → (ℕ → Row) → List Entry
entries_of R s n rows = tab n (λ i. entry_of R s (rows i))

-- the entries of a bundle
abbrev pub entries : IdRules → List ℕ → List Entry
entries R s = entries_of R s (count s) (row s)
