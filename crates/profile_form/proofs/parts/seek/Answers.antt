use Rattle.entry_id.proofs.RunLaws.{first_run}
use Rattle.profile_form.proofs.parts.seek.Goals as goal

-- `profile_form::seek` meets its contract. Assumes nothing.
pub returns : goal.returns
returns c = let a = c.args in first_run a.x.now a.from a.c c.find.result c.requires c.find.ensures
