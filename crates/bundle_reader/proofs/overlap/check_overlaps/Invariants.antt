use Prim.Native.Nat.{ℕ, ◌<◌}
use mathlib.Core.Path.{◌≡◌}
use mathlib.Core.Bool.{false}
use Rattle.wire.specs.Stop.{earlier}
use Rattle.bundle.specs.Check.{overlaps}
use Rattle.bundle_reader.specs.Slots.{images}
use Rattle.bundle_reader.proofs.overlap.check_overlaps.Given as goal

abbrev pub invariant-loop-i : goal.invariant-loop-i
invariant-loop-i l = (k : ℕ) → k < l.i → earlier overlaps (images l.rows) k ≡ false
