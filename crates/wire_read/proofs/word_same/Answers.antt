use Rattle.std.proofs.Common.{sym, ◌∙◌, arith}
use Rattle.std.proofs.lemmas.Bool.{eqb-true, eq-eqb}
use Rattle.wire.proofs.WordLaws.{word-agree, word_get, word_part}
use Rattle.wire_read.proofs.word_same.Goals as goal

pub returns : goal.returns
returns g c =
    let s = c.args in
    let w = g.row.W in
    let x = c.number.ensures ∙ word_part w s.a.now s.i (omega arith) in
    let y = c.number-2.ensures ∙ word_part w s.b.now s.i (omega arith) in
    (λ t. word_get w s.a.now s.b.now s.i (λ k. omega (arith, c.type_inv.a k)) (λ k. omega (arith, c.type_inv.b k)) (sym x ∙ eqb-true _ _ t ∙ y), λ same. eq-eqb _ _ (x ∙ word-agree w s.a.now s.b.now s.i same ∙ sym y))
