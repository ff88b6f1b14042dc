use Rattle.std.proofs.Common.{sym, arith}
use Rattle.wire.proofs.ByteLaws.{before_in, before_end, before-not}
use Rattle.wire_read.proofs.before_at.Goals as goal

pub returns-then-b-i : goal.returns-then-b-i
returns-then-b-i c = let a = c.args in sym (before-not a.a.now a.b.now (omega arith))

pub returns-then-a-i : goal.returns-then-a-i
returns-then-a-i c = let a = c.args in sym (before_end a.a.now a.b.now (omega arith) (omega arith))

pub returns : goal.returns
returns c = let a = c.args in rw c.requires (before_in a.a.now a.b.now (omega arith) (omega arith))
