use native.Mathlib.Omega.{arith}
use Rattle.std.proofs.Common.{ap, ◌∙◌}
use Rattle.wire.specs.Bytes.{overwrite}
use Rattle.offload_binary.proofs.CallLaws.{few_pairs}
use Rattle.offload_binary_writer.specs.Code.{strings, laid, image_bytes}
use Rattle.offload_binary_writer.proofs.WholeLaws.{ordered, whole}
use Rattle.offload_binary_writer.proofs.write_parts.Goals as goal

pub write_head-requires : goal.write_head-requires
write_head-requires c =
    let a = c.args in
    let o = ordered a.tags a.image.now a.pairs.now a.buf.now c.requires.0 a.at c.requires.1 in
    omega (arith, c.requires.2)

pub write_strings-requires : goal.write_strings-requires
write_strings-requires c =
    let a = c.args in
    let o = ordered a.tags a.image.now a.pairs.now a.buf.now c.requires.0 a.at c.requires.1 in
    let k = c.write_head.auto.out in
    (o.strings_num, few_pairs a.buf.now a.pairs.now c.requires.0, omega (arith, c.requires.2))

pub returns : goal.returns
returns c =
    let a = c.args in
    let t = a.at in
    let e₁ = c.write_strings.ensures ∙ ap (laid t.strings (strings a.buf.now a.pairs.now)) c.write_head.ensures in
    let e₂ = c.write_image.ensures ∙ ap (λ x. overwrite x t.end (image_bytes t a.image.now)) e₁ in
    e₂ ∙ whole a.tags a.image.now a.pairs.now a.buf.now c.requires.0 t c.requires.1 a.out.now c.requires.2
