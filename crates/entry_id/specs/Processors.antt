-- The processors of AMD's cards: "Keep a constant table of processors copied from LLVM's AMDGPU user guide, which decides (..; the `amdgcn` and generic rows)".
-- The rows of LLVM 19's guide, in its order. Definitions only.
use Rattle.std.specs.Prelude.{ℕ, Bool, true, false, not, ◌&&◌, cond, List, [], ◌∷◌, ◌++◌, map}
use Prim.Native.String.{String}
use Rattle.wire.specs.Lists.{any, every}
use Rattle.wire.specs.Bytes.{bytes, same}
use Rattle.wire.specs.Order.{distinct_by}
use Rattle.entry_id.specs.Meaning.{names_processor, field_byte}

-- "primary name, alternative names, whether `sramecc` and `xnack` are supported"
pub record Processor : Type 0 where
  pub primary : List ℕ
  pub others : List (List ℕ)
  pub sramecc : Bool
  pub xnack : Bool

abbrev row : String → List String → Bool → Bool → Processor
row p os s x = record { primary = bytes p; others = map bytes os; sramecc = s; xnack = x }

unfoldable pub processors : List Processor
processors =
    row "gfx600" ("tahiti" ∷ []) false false ∷
    row "gfx601" ("pitcairn" ∷ "verde" ∷ []) false false ∷
    row "gfx602" ("hainan" ∷ "oland" ∷ []) false false ∷
    row "gfx700" ("kaveri" ∷ []) false false ∷
    row "gfx701" ("hawaii" ∷ []) false false ∷
    row "gfx702" [] false false ∷
    row "gfx703" ("kabini" ∷ "mullins" ∷ []) false false ∷
    row "gfx704" ("bonaire" ∷ []) false false ∷
    row "gfx705" [] false false ∷
    row "gfx801" ("carrizo" ∷ []) false true ∷
    row "gfx802" ("iceland" ∷ "tonga" ∷ []) false false ∷
    row "gfx803" ("fiji" ∷ "polaris10" ∷ "polaris11" ∷ []) false false ∷
    row "gfx805" ("tongapro" ∷ []) false false ∷
    row "gfx810" ("stoney" ∷ []) false true ∷
    row "gfx900" [] false true ∷
    row "gfx902" [] false true ∷
    row "gfx904" [] false true ∷
    row "gfx906" [] true true ∷
    row "gfx908" [] true true ∷
    row "gfx909" [] false true ∷
    row "gfx90a" [] true true ∷
    row "gfx90c" [] false true ∷
    row "gfx940" [] true true ∷
    row "gfx941" [] true true ∷
    row "gfx942" [] true true ∷
    row "gfx1010" [] false true ∷
    row "gfx1011" [] false true ∷
    row "gfx1012" [] false true ∷
    row "gfx1013" [] false true ∷
    row "gfx1030" [] false false ∷
    row "gfx1031" [] false false ∷
    row "gfx1032" [] false false ∷
    row "gfx1033" [] false false ∷
    row "gfx1034" [] false false ∷
    row "gfx1035" [] false false ∷
    row "gfx1036" [] false false ∷
    row "gfx1100" [] false false ∷
    row "gfx1101" [] false false ∷
    row "gfx1102" [] false false ∷
    row "gfx1103" [] false false ∷
    row "gfx1150" [] false false ∷
    row "gfx1151" [] false false ∷
    row "gfx1152" [] false false ∷
    row "gfx1200" [] false false ∷
    row "gfx1201" [] false false ∷
    row "gfx9-generic" [] false true ∷
    row "gfx10-1-generic" [] false true ∷
    row "gfx10-3-generic" [] false false ∷
    row "gfx11-generic" [] false false ∷
    row "gfx12-generic" [] false false ∷
    []

-- the names on a row, the primary first
unfoldable pub names : Processor → List (List ℕ)
names r = r.primary ∷ r.others

-- the name stands on the row
unfoldable pub stands : List ℕ → Processor → Bool
stands n r = any (same n) (names r)

-- the names on all rows
unfoldable pub all_names : List Processor → List (List ℕ)
all_names [] = []
all_names (r ∷ rs) = names r ++ all_names rs

-- "An alternative name means its primary": the primary of the row on which the name stands; the name itself where it stands on none
unfoldable pub primary_in : List Processor → List ℕ → List ℕ
primary_in [] n = n
primary_in (r ∷ rs) n = cond (stands n r) r.primary (primary_in rs n)

-- "an alternative name stands in the sixth field": it is a field, so that it holds no hyphen, and does not begin like a processor
unfoldable pub sixth_name : List ℕ → Bool
sixth_name n = every field_byte n && not (names_processor n)

-- what is asked of a table as a whole: "no name stands on two rows", nor twice on one; every primary is its own; where alternative names stand
unfoldable pub sound_table : List Processor → Bool
sound_table rs =
    distinct_by (λ n. n) (all_names rs)
    && every (λ r. same (primary_in rs r.primary) r.primary) rs
    && every (λ r. every sixth_name r.others) rs
