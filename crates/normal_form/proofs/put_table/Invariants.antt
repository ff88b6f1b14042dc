use Prim.Native.Nat.{◌+◌, ◌≤◌}
use lib.ListN.{length, drop}
use Rattle.wire.specs.Bytes.{overwrite}
use Rattle.bundle.specs.Layout.{table, packed, images}
use Rattle.normal_form.specs.Code.{values}
use Rattle.normal_form.proofs.EncodeLaws.{Left}
use Rattle.normal_form.proofs.put_table.Given as goal

abbrev pub invariant-loop-entry : goal.invariant-loop-entry
invariant-loop-entry l =
    let es = values l.entries in
    let rest = drop l.entry-index es in
    let room = length l.initial.out in
    Left room (overwrite l.initial.out 32 (table (packed l.base es))) (table (packed l.offset rest)) l.at l.out × (l.offset + length (images rest) ≤ room)
