-- The table of processors as the code has it: a row for each name. Definitions only.
use Rattle.std.specs.Prelude.{ℕ, zero, suc, ◌+◌, ◌%◌, false, List, [], ◌∷◌, ◌++◌, length, get_or, take, drop, set}
use Rattle.wire.specs.Lists.{tab}
use Rattle.wire.specs.Bytes.{bytes}
use Rattle.entry_id.specs.Canonical.{head_number}
use Rattle.entry_id.specs.Processors.{Processor, processors, names}
use Rattle.profile_form.specs.declared.table.Row.{Row}
use Rattle.profile_form.specs.declared.table.Marks.{Marks}

-- the row of a name of p: the name, with dots behind it, in 16 bytes, its length, the row k of its primary, the marks
unfoldable pub row_for : ℕ → Processor → List ℕ → Row
row_for k p n = record {
  name = n ++ drop (length n) (bytes " . . . . . . . .");
  length = length n;
  primary = k;
  marks = record { sramecc = p.sramecc; xnack = p.xnack };
}

-- one row after the other
unfoldable pub rows_for : ℕ → Processor → List (List ℕ) → List Row
rows_for k p [] = []
rows_for k p (n ∷ ns) = row_for k p n ∷ rows_for k p ns

-- from row k on: of each processor the primary first, then its alternative names
unfoldable pub rows_from : ℕ → List Processor → List Row
rows_from k [] = []
rows_from k (p ∷ ps) = rows_for k p (names p) ++ rows_from (k + length (names p)) ps

unfoldable pub table : List Row
table = rows_from 0 processors

-- row k, and what it says
abbrev pub row_at : List Row → ℕ → Row
row_at t k = get_or t k (record { name = []; length = 0; primary = 0; marks = record { sramecc = false; xnack = false } })

unfoldable pub name_at : ℕ → List ℕ
name_at k = let r = row_at table k in take r.length r.name

unfoldable pub primary_at : ℕ → ℕ
primary_at k = (row_at table k).primary

unfoldable pub marks_at : ℕ → Marks
marks_at k = (row_at table k).marks

-- ---- where the row of a name is

-- a number made from a name
unfoldable pub slot_of : List ℕ → ℕ
slot_of w = head_number w % 1633811 % 160

-- row k at the number of its name, for each k below n; any row where there is none
unfoldable pub placed : ℕ → List ℕ
placed zero = tab 160 (λ h. h % 68)
placed (suc k) = set (placed k) (slot_of (name_at k)) k

unfoldable pub slots : List ℕ
slots = placed 68
