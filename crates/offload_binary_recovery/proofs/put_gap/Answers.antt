use native.Mathlib.Omega.{arith}
use mathlib.Core.Path.{◌≡◌}
use Prim.Native.Nat.{◌+◌}
use Rattle.wire.proofs.Bools.{by_lt}
use Rattle.wire.proofs.RowLaws.{added_none, added_one, added_past, added_counted}
use Rattle.offload_binary.proofs.RecoveryLaws.{gap_yes, gap_no}
use Rattle.offload_binary_recovery.proofs.put_gap.Goals as goal

pub returns-then-to-from : goal.returns-then-to-from
returns-then-to-from c = let a = c.args in rw (gap_no a.from a.to c.if-to-from.true) (added_none a.room a.spans.now a.k c.requires.0)

pub returns-then-k-spans : goal.returns-then-k-spans
returns-then-k-spans c = let a = c.args in rw (gap_yes a.from a.to (omega arith)) (added_one a.room a.spans.now a.k _ (omega arith))

pub returns : goal.returns
returns c =
    let a = c.args in
    rw (gap_yes a.from a.to (omega arith)) (by_lt a.room a.k
    (λ l. let e : c.min.result ≡ a.k = omega arith in rw e (added_past a.room a.spans.now a.k _ (omega arith) (omega arith)))
    (λ l. let e : c.min.result ≡ a.k + 1 = omega arith in rw e (added_counted a.room a.spans.now a.k _ l (omega arith))))
