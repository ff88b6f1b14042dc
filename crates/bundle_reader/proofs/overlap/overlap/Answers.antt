use mathlib.Core.Path.{refl}
use Rattle.bundle.specs.Check.{share_byte, same_span, overlaps}
use Rattle.bundle.specs.Records.{row_of}
use Rattle.bundle_reader.proofs.overlap.overlap.Goals as goal

pub returns : goal.returns
unfolding overlaps share_byte same_span row_of
returns c = refl
