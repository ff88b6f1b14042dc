use native.Mathlib.Omega.{arith}
use Rattle.wire.proofs.Bools.{clash}
use Rattle.wire.proofs.ByteLaws.{common-past, common-short, common-within}
use Rattle.wire_read.proofs.common_half.Goals as goal
use Rattle.wire_read.proofs.common_half.Goals.{else-n-i-via-then-n-i+else-word_same, else-n-i-via-else-n-i}

pub overflow_sub-n : goal.overflow_sub-n
overflow_sub-n g c = let within = common-within c.args.a.now c.args.b.now in omega (arith, within.0, within.1)

pub returns-then-word_same : goal.returns-then-word_same
returns-then-word_same g c =
    let a = c.args in
    let p = common-past g.row.W a.a.now a.b.now a.i (omega arith) (omega arith) (omega arith) (c.word_same.ensures.0 c.if-word_same.true) in
    (p, omega arith)

pub returns : goal.returns
returns g c =
    let a = c.args in
    let within = common-within a.a.now a.b.now in
    elim c.else-n-i.branch [
      | else-n-i-via-then-n-i+else-word_same w ↦ (omega arith, common-short g.row.W a.a.now a.b.now a.i (λ same. clash _ (w.word_same.ensures.1 same) w.if-word_same.false))
      | else-n-i-via-else-n-i w ↦ (omega arith, omega (arith, within.0, within.1))
    ]
