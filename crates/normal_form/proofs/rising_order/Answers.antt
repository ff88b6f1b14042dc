use native.Mathlib.Omega.{arith}
use mathlib.Core.Path.{◌≡◌}
use Rattle.normal_form.specs.Code.{id_of, no_held}
use Rattle.normal_form.proofs.OrderLaws.{Sorted, sorted_none, sorted_next}
use Rattle.normal_form.proofs.rising_order.Goals as goal

pub loop-i-init : goal.loop-i-init
loop-i-init c = sorted_none id_of _

pub loop-i-preserved : goal.loop-i-preserved
loop-i-preserved c = sorted_next id_of no_held _ _ _ c.loop-i.i (omega arith) (omega arith) (omega arith) (omega arith) c.loop-i.invariant c.sift.ensures

pub returns : goal.returns
returns c =
    let z : c.loop-i.i ≡ 0 = omega arith in
    let s : Sorted id_of c.args.entries.now c.loop-i.entries 0 = rw z at c.loop-i.invariant in
    s.behind
