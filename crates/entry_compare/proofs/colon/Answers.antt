use Rattle.entry_id.proofs.RunLaws.{first_run}
use Rattle.entry_compare.proofs.colon.Goals as goal

pub returns : goal.returns
returns c = let a = c.args in first_run a.x.now a.from 58 c.find.result c.requires c.find.ensures
