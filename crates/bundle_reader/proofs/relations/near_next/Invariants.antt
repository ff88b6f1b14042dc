use Prim.Native.Nat.{ℕ, ◌<◌}
use mathlib.Core.Path.{◌≡◌}
use mathlib.Core.Bool.{false}
use lib.Dec.{eqb}
use Rattle.entry_id.specs.Canonical.{head_key}
use Rattle.bundle_reader.specs.Examined.{id_at}
use Rattle.bundle_reader.proofs.relations.near_next.Given as goal

abbrev pub invariant-loop-j : goal.invariant-loop-j
invariant-loop-j l = (k : ℕ) → k < l.j → eqb (head_key (id_at l.ids k)) (head_key (id_at l.ids l.i)) ≡ false
