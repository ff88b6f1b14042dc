use native.Mathlib.Omega.{arith}
use mathlib.Core.Path.{refl}
use Rattle.wire.specs.Lists.{total}
use Rattle.bundle.specs.Layout.{packed_end, packed_length}
use Rattle.normal_form.proofs.EncodeLaws.{values_end, sums}
use Rattle.normal_form.proofs.measure.Goals as goal

pub loop-entry-init : goal.loop-entry-init
unfolding packed_end packed_length
loop-entry-init c = (refl, refl, omega arith, omega arith)

pub returns-then-all-gt-LIMIT : goal.returns-then-all-gt-LIMIT
returns-then-all-gt-LIMIT c =
    let l = c.loop-entry in
    let s = sums c.args.entries.now l.entry-index (omega arith) in
    (c.at.ensures, omega (arith, s.1, l.invariant.1))

pub loop-entry-preserved : goal.loop-entry-preserved
loop-entry-preserved c =
    let l = c.loop-entry in
    let s = sums c.args.entries.now l.entry-index (omega arith) in
    (omega (arith, s.0, l.invariant.0), omega (arith, s.1, l.invariant.1), omega arith, omega arith)

pub returns : goal.returns
unfolding total
returns c =
    let l = c.loop-entry in
    let h = rw (values_end c.args.entries.now l.entry-index (omega arith)) at l.invariant in
    (omega (arith, h.0), omega (arith, h.1), omega (arith, h.1, l.invariant.3))
