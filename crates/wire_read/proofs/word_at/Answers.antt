use Rattle.std.proofs.Common.{min, sym, ap, ◌∙◌, arith}
use Rattle.wire.specs.Word.{word}
use Rattle.wire.proofs.WordLaws.{word-beyond, word_part, word_rest, word_lt}
use Rattle.wire_read.proofs.word_at.Goals as goal

pub returns-then-s-at : goal.returns-then-s-at
returns-then-s-at g c =
    let s = c.args.s.now in
    let width = min g.row.W 8 in
    let e = word-beyond width s c.args.at c.if-s-at.true in
    (sym e, omega (arith, e, word_lt width s c.args.at (λ k. omega (arith, c.type_inv.s k))))

pub returns-then-width-s : goal.returns-then-width-s
returns-then-width-s g c =
    let s = c.args.s.now in
    let e = c.number.ensures ∙ word_part c.min-width.result s c.args.at (omega arith) ∙ ap (λ w. word w s c.args.at) c.min-width.ensures in
    (e, omega (arith, e, word_lt (min g.row.W 8) s c.args.at (λ k. omega (arith, c.type_inv.s k))))

pub returns : goal.returns
returns g c =
    let s = c.args.s.now in
    let at = c.args.at in
    let e = c.number_of_few.ensures ∙ word_rest c.min-width.result s at (omega arith) (omega arith) ∙ ap (λ w. word w s at) c.min-width.ensures in
    (e, omega (arith, e, word_lt (min g.row.W 8) s at (λ k. omega (arith, c.type_inv.s k))))
