use Prim.Native.Nat.{◌%◌}
use mathlib.Core.Path.{ap}
use Rattle.profile_form.specs.Table.{slot_of}
use Rattle.profile_form.proofs.table.slot_of.Goals as goal

-- `profile_form::slot_of` meets its contract. Assumes nothing.
pub returns : goal.returns
unfolding slot_of
returns c = ap (λ n. n % 1633811 % 160) c.head_number.ensures
