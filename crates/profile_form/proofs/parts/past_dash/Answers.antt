use native.Mathlib.Omega.{arith}
use Rattle.profile_form.proofs.SeekLaws.{past-found, past_end}
use Rattle.profile_form.proofs.parts.past_dash.Goals as goal

-- `profile_form::past_dash` meets its contract. Assumes nothing.
pub returns-then-i-x : goal.returns-then-i-x
returns-then-i-x c = let a = c.args in (past-found a.x.now a.from c.seek-i.result c.seek-i.ensures (omega arith), omega (arith, c.seek-i.ensures.high))

pub returns : goal.returns
returns c = let a = c.args in (past_end a.x.now a.from c.seek-i.result c.seek-i.ensures (omega arith), omega (arith, c.seek-i.ensures.high))
