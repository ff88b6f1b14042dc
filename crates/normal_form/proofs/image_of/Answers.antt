use Rattle.bundle.specs.Entry.{image_of}
use Rattle.bundle.specs.Records.{row_of}
use Rattle.normal_form.proofs.GivenLaws.{cut}
use Rattle.normal_form.proofs.image_of.Goals as goal

pub returns : goal.returns
unfolding image_of row_of
returns c = let r = c.args.row in cut c.args.src.now r.image_start r.image_len _ _ c.min.ensures c.min-2.ensures
