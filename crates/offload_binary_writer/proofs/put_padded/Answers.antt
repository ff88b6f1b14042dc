use Prim.Native.Nat.{ℕ, ◌+◌}
use native.Mathlib.Omega.{arith}
use mathlib.Core.Path.{◌≡◌, refl, ap, ◌∙◌}
use mathlib.Core.List.{List}
use Rattle.wire.specs.Bytes.{overwrite}
use Rattle.wire.proofs.OverwriteLaws.{overwrite_then}
use lib.ListN.{length, replicate, length-replicate}
use Rattle.offload_binary_writer.proofs.put_padded.Goals as goal

pub returns : goal.returns
returns c =
    let a = c.args in
    let l = length a.bytes.now in
    let z : List ℕ = replicate a.n 0 in
    let k : length z ≡ a.n = length-replicate a.n 0 in
    c.put_zeros.ensures
    ∙ ap (λ o. overwrite o (a.at + l) z) c.copy_at.ensures
    ∙ overwrite_then a.out.now a.at (a.at + l) a.bytes.now z refl (omega (arith, c.requires.0))
