use Rattle.std.proofs.Common.{sym, ◌∙◌}
use Rattle.wire.specs.Bytes.{same}
use Rattle.entry_id.specs.Canonical.{mixed_spelled, same_text, mixed_text}
use Rattle.entry_compare.proofs.KindLaws.{same_head, mixed_head}
use Rattle.entry_compare.proofs.relation_of.Goals as goal

pub returns-in-Some : goal.returns-in-Some
unfolding same_text mixed_text
returns-in-Some c = let r = c.relation.ensures in
    (r.0 ∙ c.in-Some.ensures same same_head, r.1 ∙ c.in-Some.ensures mixed_spelled mixed_head)

pub returns-in-None : goal.returns-in-None
unfolding same_text mixed_text
returns-in-None c = (sym (c.in-None.ensures same), sym (c.in-None.ensures mixed_spelled))
