use native.Mathlib.Omega.{arith}
use Prim.Native.Nat.{◌*◌}
use Rattle.wire.proofs.Bools.{clash}
use Rattle.wire.proofs.ByteLaws.{common-past, common-short, common-within}
use Rattle.wire_read.proofs.common_words.Goals as goal

pub returns-then-not-word_same : goal.returns-then-not-word_same
returns-then-not-word_same c =
    let a = c.args in
    let l = c.loop-k in
    (l.invariant, common-short 8 a.a.now a.b.now (8 * l.k) (λ e. clash _ (c.word_same.ensures.1 e) c.if-not-word_same.true))

pub loop-k-preserved : goal.loop-k-preserved
loop-k-preserved c =
    let a = c.args in
    let l = c.loop-k in
    omega (arith, common-past 8 a.a.now a.b.now (8 * l.k) (omega arith) (omega arith) l.invariant (c.word_same.ensures.0 c.if-not-word_same.false))

pub returns : goal.returns
returns c = let within = common-within c.args.a.now c.args.b.now in (omega arith, omega (arith, within.0, within.1))
