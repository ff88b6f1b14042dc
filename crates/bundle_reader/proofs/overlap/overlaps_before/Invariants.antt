use Prim.Native.Nat.{ℕ, ◌<◌}
use mathlib.Core.Path.{◌≡◌}
use mathlib.Core.Bool.{false}
use Rattle.bundle.specs.Check.{overlaps}
use Rattle.bundle_reader.specs.Slots.{images}
use Rattle.bundle_reader.proofs.overlap.overlaps_before.Given as goal

abbrev pub invariant-loop-j : goal.invariant-loop-j
invariant-loop-j l = (k : ℕ) → k < l.j → overlaps (images l.rows k) (images l.rows l.i) ≡ false
