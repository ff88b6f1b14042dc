use Prim.Native.Nat.{ℕ, ◌≤◌, ◌<◌, ◌-◌}
use mathlib.Core.Bool.{Bool, false, ◌&&◌}
use mathlib.Core.Path.{◌≡◌}
use mathlib.Core.List.{List}
use lib.Dec.{leb, eqb}
use lib.ListN.{length, get_or}
use Rattle.wire_read.proofs.find.Given as goal

-- `wire_read::find` meets its contract. The loop's invariant: no byte so far is a c. Assumes nothing.
abbrev pub here : List ℕ → ℕ → ℕ → ℕ → Bool
here x from c i = leb from i && eqb (get_or x i 0) c

abbrev pub invariant-loop-i : goal.invariant-loop-i
invariant-loop-i l = (l.from ≤ l.i) × ((j : ℕ) → j < l.i → here l.x l.from l.c j ≡ false)

abbrev pub decreases-loop-i : goal.decreases-loop-i
decreases-loop-i l = length l.x - l.i
