use mathlib.Core.Path.{sym}
use lib.Seq.{length-take-le}
use native.Mathlib.Omega.{arith}
use Rattle.entry_id.proofs.RunLaws.{first_run}
use Rattle.entry_compare.proofs.KindLaws.{kind_ends}
use Rattle.entry_compare.proofs.kind_end.Goals as goal

pub slice_bounds-find-end : goal.slice_bounds-find-end
slice_bounds-find-end c = let a = c.args in sym (length-take-le _ _ (first_run a.x.now 0 45 c.find-d.result (omega arith) c.find-d.ensures).high)

pub returns : goal.returns
returns c =
    let a = c.args in
    let d = c.find-d in
    kind_ends _ d.result _ (first_run a.x.now 0 45 d.result (omega arith) d.ensures) (first_run _ 0 58 c.find.result (omega arith) c.find.ensures)
