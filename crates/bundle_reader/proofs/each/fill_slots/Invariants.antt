use mathlib.Core.Path.{◌≡◌}
use Rattle.wire.specs.Lists.{tab}
use Rattle.wire.specs.Stop.{over}
use Rattle.bundle.specs.Each.{slot_of}
use Rattle.bundle.specs.Results.{picked_of}
use Rattle.bundle_reader.specs.Slots.{picked_at}
use Rattle.bundle_reader.proofs.EachLaws.{word_after}
use Rattle.bundle_reader.proofs.each.fill_slots.Given as goal

abbrev pub invariant-loop-k : goal.invariant-loop-k
invariant-loop-k l =
    (l.word ≡ word_after (picked_at l.rows l.ids l.buffer l.names) l.k)
    × (l.slots ≡ over (tab l.k (λ j. slot_of (picked_of (picked_at l.rows l.ids l.buffer l.names j)))) l.initial.slots)
