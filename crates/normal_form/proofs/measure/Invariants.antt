use mathlib.Core.Path.{◌≡◌}
use Prim.Native.Nat.{◌≤◌, ◌+◌}
use lib.ListN.{drop}
use Rattle.wire.specs.Limit.{limit}
use Rattle.wire.specs.Lists.{total}
use Rattle.bundle.specs.Layout.{row_size, entry_size, packed_end, packed_length}
use Rattle.normal_form.specs.Code.{values}
use Rattle.normal_form.proofs.measure.Given as goal

-- what is left makes up the whole
abbrev pub invariant-loop-entry : goal.invariant-loop-entry
invariant-loop-entry l =
    let rest = drop l.entry-index (values l.entries) in
    (l.end + total row_size rest ≡ packed_end (values l.entries)) × (l.all + total entry_size rest ≡ packed_length (values l.entries)) × (l.end ≤ l.all) × (l.all ≤ limit)
