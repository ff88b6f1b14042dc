use Prim.Native.Nat.{◌+◌}
use native.Mathlib.Omega.{arith}
use Rattle.offload_binary_recovery.proofs.SearchLaws.{magic-not, block_more}
use Rattle.offload_binary_recovery.proofs.has_magic.Goals as goal

pub loop-i-init : goal.loop-i-init
loop-i-init c e k a h = absurd (omega arith)

pub loop-i-preserved : goal.loop-i-preserved
loop-i-preserved c =
    let l = c.loop-i in
    let s = c.args.s.now in
    let at = c.args.p + l.i in
    λ e k a h. block_more s c.args.p at _ _ l.invariant (magic-not s at) e k a (omega arith)

pub returns : goal.returns
returns c e k a h = c.loop-i.invariant e k a (omega arith)
