use Rattle.bundle_reader.specs.Examined.{held_row}
use Rattle.bundle_reader.proofs.table.row_at.Goals as goal

pub returns : goal.returns
unfolding held_row
returns c = cc
