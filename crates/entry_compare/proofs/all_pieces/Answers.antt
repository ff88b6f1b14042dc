use Rattle.std.proofs.Common.{◌&&◌, sym, ap, ◌∙◌, arith}
use Rattle.wire.specs.Lists.{every}
use Rattle.entry_id.specs.Scan.{part, pieces_at}
use Rattle.entry_compare.proofs.TestLaws.{every-next, every_end}
use Rattle.entry_compare.proofs.all_pieces.Goals as goal

pub returns-then-not-test : goal.returns-then-not-test
unfolding part
returns-then-not-test g c = λ passes f.
    let x = c.args.x.now in
    let l = c.loop-at in
    let e = c.colon-e.result in
    sym (l.invariant passes f ∙ every-next passes x l.at e (omega arith) c.colon-e.ensures ∙ ap (λ b. b && every passes (pieces_at x e)) (sym (f _ _ c.test.ensures) ∙ c.if-not-test.true))

pub loop-at-preserved : goal.loop-at-preserved
unfolding part
loop-at-preserved g c = λ passes f.
    let x = c.args.x.now in
    let l = c.loop-at in
    let e = c.colon-e.result in
    l.invariant passes f ∙ every-next passes x l.at e (omega arith) c.colon-e.ensures ∙ ap (λ b. b && every passes (pieces_at x e)) (sym (f _ _ c.test.ensures) ∙ c.if-not-test.false)

pub returns : goal.returns
returns g c = λ passes f. let l = c.loop-at in sym (l.invariant passes f ∙ every_end passes c.args.x.now l.at (omega arith))
