use Rattle.std.proofs.Common.{sym, ◌∙◌}
use Rattle.entry_id.specs.Canonical.{compatible_spelled, compatible_text}
use Rattle.entry_compare.proofs.KindLaws.{compatible_head}
use Rattle.entry_compare.proofs.compatible.Goals as goal

pub returns-in-Some : goal.returns-in-Some
unfolding compatible_text
returns-in-Some c = c.compatible.ensures ∙ c.in-Some.ensures compatible_spelled compatible_head

pub returns-in-None : goal.returns-in-None
unfolding compatible_text
returns-in-None c = sym (c.in-None.ensures compatible_spelled)
