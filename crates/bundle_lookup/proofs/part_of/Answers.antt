use Rattle.bundle.specs.Lookup.{bundle_of}
use Rattle.bundle_lookup.proofs.part_of.Goals as goal

pub part-requires : goal.part-requires
unfolding bundle_of
part-requires c = rw (c.in-Ok.is, c.in-Patch.is) at c.requires

pub part-requires-in-Main : goal.part-requires-in-Main
unfolding bundle_of
part-requires-in-Main c = rw (c.in-Ok.is, c.in-Main.is) at c.requires

pub returns-in-Patch : goal.returns-in-Patch
unfolding bundle_of
returns-in-Patch c = rw (c.in-Ok.is, c.in-Patch.is) c.part.ensures

pub returns-in-Main : goal.returns-in-Main
unfolding bundle_of
returns-in-Main c = rw (c.in-Ok.is, c.in-Main.is) c.part-in-Main.ensures
