use Prim.Native.Nat.{◌+◌}
use mathlib.Core.Path.{◌≡◌}
use mathlib.Core.Bool.{false}
use Rattle.offload_binary_recovery.specs.Code.{NonePasses}
use Rattle.offload_binary_recovery.proofs.has_magic.Given as goal

abbrev pub invariant-loop-i : goal.invariant-loop-i
invariant-loop-i l = l.hit ≡ false → NonePasses l.s l.p (l.p + l.i)
