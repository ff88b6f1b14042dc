use Rattle.std.proofs.Common.{◌∙◌, ◌*◌, ◌%◌, ◌^◌, ℕ, ap, arith}
use Rattle.wire.proofs.WordLaws.{word_part, word_shift}
use Rattle.wire_read.proofs.part.Goals as goal

pub returns : goal.returns
returns g c =
    let s = c.args.bytes.now in
    let k = c.args.k in
    let e = c.number.ensures ∙ word_part g.row.W s k (omega arith) in
    let shifted = word_shift k g.row.W s c.requires.1 (λ i. omega (arith, c.type_inv.bytes i)) in
    ((λ h. ap (λ (x : ℕ). x * 2 ^ (8 * k) % 2 ^ 64) e ∙ shifted.0), (λ h. absurd (omega arith)))
