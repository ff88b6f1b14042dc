use Prim.Native.Nat.{ℕ, ◌<◌}
use mathlib.Core.Path.{◌≡◌}
use mathlib.Core.Bool.{false}
use Rattle.wire.specs.First.{any_below}
use Rattle.entry_id.specs.Canonical.{same_text, mixed_text}
use Rattle.entry_compare.specs.Relations.{is_same, is_mixed}
use Rattle.bundle_reader.specs.Examined.{id_at}
use Rattle.bundle_reader.proofs.relations.relation_before.Given as goal

abbrev pub invariant-loop-j : goal.invariant-loop-j
invariant-loop-j l = ((k : ℕ) → k < l.j → same_text (id_at l.ids k) (id_at l.ids l.i) ≡ false) × (is_same l.found ≡ false) × (is_mixed l.found ≡ any_below l.j (λ k. mixed_text (id_at l.ids k) (id_at l.ids l.i)))
