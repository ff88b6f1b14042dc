use Rattle.bundle_reader.proofs.CheckLaws.{checked_is}
use Rattle.bundle_reader.proofs.check_with.Goals as goal

pub returns : goal.returns
returns g c = checked_is _ _ _ c.check_in.ensures.stop c.check_in.ensures.count
