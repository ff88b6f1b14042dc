use Rattle.std.specs.Prelude.{Err}
use native.Mathlib.Omega.{arith}
use mathlib.Core.Path.{ap, ◌∙◌}
use Prim.Native.Nat.{◌≤◌}
use lib.ListN.{get_or, length-replicate}
use Rattle.std.proofs.lemmas.Result.{err_from_is_err_and}
use Rattle.bundle.specs.Table.{count}
use Rattle.bundle.specs.EntryAt.{entry_at}
use Rattle.bundle.specs.declared.EntryRecord.{EntryRecord}
use Rattle.bundle.specs.Records.{no_record}
use Rattle.bundle.specs.Results.{located_of}
use Rattle.bundle_reader.proofs.FilledLaws.{filled_at}
use Rattle.bundle_reader.proofs.IdLaws.{general_is}
use Rattle.bundle_reader.proofs.CheckLaws.{check_few}
use Rattle.bundle_reader.proofs.PickLaws.{located-stop, located-none, located-row}
use Rattle.bundle_reader.proofs.entry_with.Goals as goal

pub returns-in_err-count : goal.returns-in_err-count
returns-in_err-count g c =
    let p = err_from_is_err_and c.from_residual.result c.from_residual.ensures.1 in
    rw (p.1, p.2) (located-stop _ _ c.args.index _ c.in_err-count.ensures.stop ∙ ap (λ R. entry_at R c.args.bundle.now c.args.index) general_is)

pub returns-then-count-index : goal.returns-then-count-index
returns-then-count-index g c =
    let k = c.in_ok-count.ensures in
    ap (λ r. located_of (Err r)) c.at.ensures
    ∙ located-none _ c.args.bundle.now k.stop c.args.index (omega (arith, k.count))
    ∙ ap (λ R. entry_at R c.args.bundle.now c.args.index) general_is

pub offset_bounds-rows-index : goal.offset_bounds-rows-index
offset_bounds-rows-index g c =
    let k = c.in_ok-count.ensures in
    omega (arith, k.count, check_few _ _ k.stop)

pub bounds-rows-index : goal.bounds-rows-index
bounds-rows-index g c =
    let k = c.in_ok-count.ensures in
    omega (arith, k.count, c.requires.1 (check_few _ _ k.stop))

pub returns : goal.returns
returns g c =
    let k = c.in_ok-count.ensures in
    let s = c.args.bundle.now in
    let i = c.args.index in
    located-row _ s k.stop i (omega (arith, k.count)) _
    (ap (λ z. get_or z i no_record) k.rows_after ∙ filled_at _ _ _ no_record (let room : count s ≤ g.row.N = c.requires.1 (check_few _ _ k.stop) in omega (arith, room, length-replicate {A = EntryRecord} g.row.N no_record)) i (omega (arith, k.count)))
    ∙ ap (λ R. entry_at R s i) general_is
