use mathlib.Core.Path.{sym}
use native.Mathlib.Omega.{arith}
use Rattle.wire.proofs.ByteLaws.{same_length, same-common}
use Rattle.wire_read.proofs.same_bytes.Goals as goal

pub returns-then-a-b : goal.returns-then-a-b
returns-then-a-b c = let a = c.args in sym (same_length a.a.now a.b.now c.if-a-b.true)

pub returns : goal.returns
returns c = let a = c.args in rw c.common_prefix.ensures (same-common a.a.now a.b.now (omega arith))
