use Prim.Native.Nat.{ℕ, ◌-◌, ◌<◌}
use mathlib.Core.Path.{◌≡◌}
use mathlib.Core.Bool.{false}
use Rattle.wire.specs.Stop.{earlier}
use Rattle.entry_id.specs.Canonical.{same_text, mixed_text}
use Rattle.bundle_reader.specs.Examined.{id_at}
use Rattle.bundle_reader.specs.Slots.{near, first_found}
use Rattle.bundle_reader.proofs.relations.check_relations.Given as goal

abbrev pub invariant-loop-i : goal.invariant-loop-i
invariant-loop-i l = (0 < l.i → l.from ≡ near l.ids (l.i - 1)) × ((k : ℕ) → k < l.i → earlier same_text (id_at l.ids) k ≡ false) × (l.mixed ≡ first_found l.i (earlier mixed_text (id_at l.ids)))
