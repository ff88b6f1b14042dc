use Rattle.entry_compare.proofs.TestLaws.{whole_same}
use Rattle.entry_compare.proofs.Pair.same.Goals as goal

pub returns : goal.returns
returns c = whole_same _ _ _ c.args.self.now.shared_is
