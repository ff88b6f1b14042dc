use Rattle.std.proofs.Common.{true, false, eq-eqb, ne_eqb}
use Rattle.entry_compare.proofs.TestLaws.{meet_apart, meet_found, meet_other, ends_inside, ends_past}
use Rattle.entry_compare.proofs.Pair.head_end.Goals.{else-e-b-via-then-e-b+else-b-e-ne58, else-e-b-via-else-e-b}
use Rattle.entry_compare.proofs.Pair.head_end.Goals as goal

pub returns-then-self-e : goal.returns-then-self-e
returns-then-self-e c = meet_apart _ _ _ _ c.colon-e.ensures c.args.self.now.shared_is c.if-self-e.true

pub returns-then-b-e-ne58 : goal.returns-then-b-e-ne58
returns-then-b-e-ne58 c =
    let b = c.args.self.now.b.now in
    meet_other _ b _ _ c.colon-e.ensures c.args.self.now.shared_is c.if-self-e.false (ends_inside b _ false c.if-e-b.true (ne_eqb _ 58 c.if-b-e-ne58.true))

pub returns : goal.returns
returns c =
    let b = c.args.self.now.b.now in
    meet_found _ b _ _ c.colon-e.ensures c.args.self.now.shared_is c.if-self-e.false (elim c.else-e-b.branch [
      | else-e-b-via-then-e-b+else-b-e-ne58 w ↦ ends_inside b _ true w.if-e-b.true (eq-eqb _ 58 w.if-b-e-ne58.false)
      | else-e-b-via-else-e-b w ↦ ends_past b _ w.if-e-b.false
    ])
