use native.Mathlib.Omega.{arith}
use mathlib.Core.Path.{sym, ◌∙◌}
use Rattle.normal_form.specs.Code.{id_of, no_held}
use Rattle.normal_form.proofs.OrderLaws.{sifted_none, sifted_end, sifted_stop, sifted_next}
use Rattle.normal_form.proofs.sift.Goals as goal

pub loop-i-init : goal.loop-i-init
loop-i-init c = λ e es q. sifted_none id_of e es _ q

pub loop-i-preserved : goal.loop-i-preserved
loop-i-preserved c = λ e es q.
    rw c.swap.ensures.after
    (sifted_next id_of e no_held es c.loop-i.entries c.loop-i.i (omega arith) (c.loop-i.invariant e es q) (omega arith) (sym c.comes_before.ensures ∙ c.if-comes_before.false))

pub returns-after-loop-i : goal.returns-after-loop-i
returns-after-loop-i c = λ e es q. sifted_end id_of e no_held es c.loop-i.entries c.loop-i.i (omega arith) (c.loop-i.invariant e es q) (omega arith)

pub returns-then-comes_before : goal.returns-then-comes_before
returns-then-comes_before c = λ e es q.
    sifted_stop id_of e no_held es c.loop-i.entries c.loop-i.i (omega arith) (c.loop-i.invariant e es q) (omega arith) (sym c.comes_before.ensures ∙ c.if-comes_before.true)
