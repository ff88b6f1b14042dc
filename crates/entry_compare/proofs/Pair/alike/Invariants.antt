use Prim.Native.Nat.{◌-◌, ◌≤◌, ◌<◌}
use mathlib.Core.Path.{◌≡◌}
use mathlib.Core.Bool.{false}
use lib.Dec.{eqb}
use lib.ListN.{length, get_or, drop}
use Rattle.wire.specs.Lists.{agree}
use Rattle.entry_id.specs.Canonical.{same_but_sign}
use Rattle.entry_compare.proofs.Pair.alike.Given as goal

abbrev pub invariant-loop-at : goal.invariant-loop-at
invariant-loop-at l = (l.at ≤ length l.a) × (length l.a ≡ length l.b) × (agree same_but_sign l.a l.b ≡ agree same_but_sign (drop l.at l.a) (drop l.at l.b)) × (l.at < length l.a → eqb (get_or l.a l.at 0) (get_or l.b l.at 0) ≡ false)

abbrev pub decreases-loop-at : goal.decreases-loop-at
decreases-loop-at l = length l.a - l.at
