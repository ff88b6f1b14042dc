use native.Mathlib.Omega.{arith}
use Prim.Native.Nat.{ℕ, ◌-◌}
use mathlib.Core.Path.{◌≡◌, ap, ◌∙◌}
use mathlib.Core.List.{List, ◌++◌}
use lib.ListN.{length, replicate, length-append, length-replicate}
use Rattle.wire.specs.Bytes.{overwrite}
use Rattle.wire.proofs.OverwriteLaws.{overwrite_then}
use Rattle.offload_binary.proofs.WrittenLaws.{up8_le}
use Rattle.offload_binary_writer.specs.Code.{image_bytes}
use Rattle.offload_binary_writer.proofs.WholeLaws.{up8_top}
use Rattle.offload_binary_writer.proofs.write_image.Goals as goal

pub overflow_sub-at : goal.overflow_sub-at
overflow_sub-at c =
    omega (arith, c.requires.0, up8_le c.args.at.end)

pub put_zeros-requires : goal.put_zeros-requires
put_zeros-requires c =
    omega (arith, c.requires.0, up8_top c.args.at.end)

pub overflow_sub-at-2 : goal.overflow_sub-at-2
overflow_sub-at-2 c =
    omega (arith, c.requires.1.1.0, up8_le c.args.at.stop)

pub put_padded-requires : goal.put_padded-requires
put_padded-requires c =
    let k = c.put_zeros.auto.out in
    let z = up8_top c.args.at.stop in
    (omega (arith, c.requires.1.0, c.requires.1.1.0, c.requires.1.1.1, up8_le c.args.at.stop), omega (arith, c.requires.1.1.0))

pub returns : goal.returns
unfolding image_bytes
returns c =
    let a = c.args in
    let t = a.at in
    let z : List ℕ = replicate (t.image - t.end) 0 in
    let e : List ℕ = replicate (t.size - t.stop) 0 in
    let p = c.requires in
    let lz : length z ≡ t.image - t.end = length-replicate (t.image - t.end) 0 in
    let le : length e ≡ t.size - t.stop = length-replicate (t.size - t.stop) 0 in
    let up = up8_le t.end in
    let up' = up8_le t.stop in
    c.put_padded.ensures
    ∙ ap (λ o. overwrite o t.image (a.image.now ++ e)) c.put_zeros.ensures
    ∙ overwrite_then a.out.now t.end t.image z (a.image.now ++ e) (omega (arith, p.0)) (omega (arith, p.0, p.1.0, p.1.1.0, p.1.1.1, length-append a.image.now e))
