use Prim.Native.Nat.{ℕ, ◌<◌}
use mathlib.Core.Path.{◌≡◌}
use mathlib.Core.Bool.{false}
use Rattle.wire.specs.Stop.{earlier}
use Rattle.bundle.specs.Check.{overlaps}
use Rattle.bundle_reader.specs.Slots.{images}
use Rattle.bundle_reader.proofs.OverlapLaws.{From}
use Rattle.bundle_reader.proofs.overlap.side_by_side.Given as goal

abbrev pub invariant-loop-row : goal.invariant-loop-row
invariant-loop-row l = ((k : ℕ) → k < l.row-index → earlier overlaps (images l.rows) k ≡ false) × From (images l.rows) l.row-index l.low l.high
