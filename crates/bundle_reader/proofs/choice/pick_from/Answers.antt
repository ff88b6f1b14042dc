use native.Mathlib.Omega.{arith}
use mathlib.Core.Path.{ap}
use Rattle.bundle.specs.Records.{record_at}
use Rattle.bundle_reader.specs.Slots.{image_of}
use Rattle.bundle_reader.proofs.PickLaws.{choice_lt}
use Rattle.bundle_reader.proofs.choice.pick_from.Goals as goal

pub offset_bounds-rows-index : goal.offset_bounds-rows-index
offset_bounds-rows-index c = omega (arith, c.requires, choice_lt _ _ _ c.in_ok-index.ensures)

pub bounds-rows-index : goal.bounds-rows-index
bounds-rows-index c = omega (arith, c.requires, choice_lt _ _ _ c.in_ok-index.ensures)

pub returns : goal.returns
unfolding record_at
returns c = ap (image_of c.args.rows.now) c.in_ok-index.ensures
