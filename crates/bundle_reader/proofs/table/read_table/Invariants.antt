use Prim.Native.Nat.{ℕ, ◌<◌, ◌≤◌}
use mathlib.Core.Path.{◌≡◌}
use mathlib.Core.Bool.{false}
use lib.ListN.{length}
use Rattle.bundle.specs.Table.{row_start}
use Rattle.bundle.specs.Check.{bad_row}
use Rattle.bundle_reader.specs.Examined.{filled, row_held}
use Rattle.bundle_reader.proofs.table.read_table.Given as goal

abbrev pub invariant-loop-i : goal.invariant-loop-i
invariant-loop-i l = (l.end ≡ row_start l.s l.i) × (l.end ≤ length l.s) × ((k : ℕ) → k < l.i → bad_row l.s (row_start l.s k) ≡ false) × (l.rows ≡ filled l.initial.rows l.i (row_held l.s))
