use mathlib.Core.Path.{ap}
use Rattle.bundle.specs.Each.{slot_of}
use Rattle.bundle_reader.proofs.each.slot_of.Goals as goal

pub returns : goal.returns
unfolding slot_of
returns c = ap slot_of c.from-p.ensures
