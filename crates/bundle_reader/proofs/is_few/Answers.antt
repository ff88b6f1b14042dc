use mathlib.Core.Path.{ap}
use Prim.Native.Nat.{ℕ}
use lib.Dec.{leb}
use Rattle.bundle.specs.Table.{count}
use Rattle.bundle_reader.proofs.is_few.Goals as goal

pub returns : goal.returns
unfolding count
returns c = ap (λ (n : ℕ). leb n 8) c.word_at.ensures.0
