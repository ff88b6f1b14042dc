use Prim.Native.Nat.{ℕ, ◌<◌}
use mathlib.Core.Path.{◌≡◌}
use mathlib.Core.Bool.{false}
use Rattle.entry_id.specs.Rules.{rules_of}
use Rattle.bundle.specs.Check.{bad_id, outside}
use Rattle.bundle.specs.Records.{record_at, rows_of}
use Rattle.bundle_reader.specs.Examined.{filled, form}
use Rattle.bundle_reader.specs.Slots.{first_found}
use Rattle.bundle_reader.proofs.entries.read_ids.Given as goal

abbrev pub invariant-loop-i : goal.invariant-loop-i
invariant-loop-i l = (l.ids ≡ filled l.initial.ids l.i (form (rules_of l.reading) (rows_of l.s l.rows))) × ((k : ℕ) → k < l.i → bad_id (rules_of l.reading) (rows_of l.s l.rows k) ≡ false) × (l.outside ≡ first_found l.i (λ k. outside l.end l.len (record_at l.rows k).image_start (record_at l.rows k).image_len))
