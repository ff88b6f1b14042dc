use mathlib.Core.Path.{sym, ◌∙◌}
use native.Mathlib.Omega.{arith}
use Rattle.wire_read.proofs.BigEndianLaws.{before_big, before_even}
use Rattle.wire_read.proofs.comes_before.Goals as goal

pub returns-then-x-y : goal.returns-then-x-y
returns-then-x-y c =
    let a = c.args in
    before_even a.a.now a.b.now
    (λ k. omega (arith, c.type_inv.a k))
    (λ k. omega (arith, c.type_inv.b k))
    8 c.min-at.result (omega arith) (λ p q. omega (arith, p, q))
    (sym c.big8_in-x.ensures ∙ c.if-x-y.true ∙ c.big8_in-y.ensures)

pub returns : goal.returns
returns c =
    let a = c.args in
    let x = c.big8_in-x.ensures in
    let y = c.big8_in-y.ensures in
    rw (x, y)
    (before_big a.a.now a.b.now
    (λ k. omega (arith, c.type_inv.a k))
    (λ k. omega (arith, c.type_inv.b k))
    8 c.min-at.result (omega arith) (λ e. c.if-x-y.false (x ∙ e ∙ sym y)))
