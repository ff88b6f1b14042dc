use mathlib.Core.Path.{◌≡◌}
use Rattle.wire.specs.Lists.{tab}
use Rattle.wire.specs.Stop.{over}
use Rattle.normal_form.specs.Code.{values, entry_at}
use Rattle.normal_form.proofs.list_entries.Given as goal

abbrev pub invariant-loop-i : goal.invariant-loop-i
invariant-loop-i l = values l.entries ≡ over (tab l.i (entry_at l.src l.records l.ids)) (values l.initial.entries)
