use Prim.Native.Nat.{◌+◌, ◌-◌, ◌≤◌}
use mathlib.Core.Path.{◌≡◌}
use mathlib.Core.List.{◌++◌}
use lib.ListN.{length, take}
use Rattle.bundle_compare.proofs.FindLaws.{Progress, lefts, rights}
use Rattle.bundle_compare.proofs.find.find_differences.Given as goal

abbrev pub invariant-loop-i : goal.invariant-loop-i
invariant-loop-i l = (l.count ≤ length l.found) × Progress l.left l.right (take l.count l.found) l.i l.j

abbrev pub decreases-loop-i : goal.decreases-loop-i
decreases-loop-i l = length l.left - l.i + (length l.right - l.j)

abbrev pub invariant-loop-l : goal.invariant-loop-l
invariant-loop-l l = (l.count ≡ l.initial.count + l.l-index) × (take l.count l.found ≡ take l.initial.count l.initial.found ++ lefts (take l.l-index l.l-items))

abbrev pub invariant-loop-r : goal.invariant-loop-r
invariant-loop-r l = (l.count ≡ l.initial.count + l.r-index) × (take l.count l.found ≡ take l.initial.count l.initial.found ++ rights (take l.r-index l.r-items))
