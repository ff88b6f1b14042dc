use Rattle.std.proofs.Common.{ℕ, ◌+◌, ◌<◌, get_or, sym, arith}
use Rattle.wire.proofs.WordLaws.{word_none, word_next, word-fits}
use Rattle.wire_read.proofs.number.Goals as goal

pub loop-k-init : goal.loop-k-init
loop-k-init c = sym (word_none c.args.bytes.now 0)

pub overflow_add-number : goal.overflow_add-number
overflow_add-number c =
    let l = c.loop-k in
    let s = c.args.bytes.now in
    let small : (i : ℕ) → get_or s i 0 < 256 = λ i. omega (arith, c.type_inv.bytes i) in
    omega (arith, word_next l.k l.number s (omega arith) small l.invariant, word-fits (l.k + 1) s 0 (omega arith) small)

pub loop-k-preserved : goal.loop-k-preserved
loop-k-preserved c = let l = c.loop-k in word_next l.k l.number c.args.bytes.now (omega arith) (λ i. omega (arith, c.type_inv.bytes i)) l.invariant
