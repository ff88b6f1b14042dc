use mathlib.Core.Path.{refl}
use Rattle.entry_id.specs.Canonical.{sign_byte}
use Rattle.entry_compare.proofs.sign_byte.Goals as goal

pub returns : goal.returns
unfolding sign_byte
returns c = refl
