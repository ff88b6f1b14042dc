use Rattle.std.proofs.Common.{arith, ap, ◌∙◌}
use Rattle.std.specs.Int.{w64, swap_bytes}
use Rattle.wire.proofs.WordLaws.{word_part}
use Rattle.wire_read.proofs.BigEndianLaws.{swapped}
use Rattle.wire_read.proofs.big8_in.Goals as goal

pub returns : goal.returns
returns c =
    let s = c.args.s.now in
    let at = c.args.at in
    c.swap_bytes.ensures ∙ ap (swap_bytes w64) (c.number-x.ensures ∙ word_part 8 s at (omega arith)) ∙ swapped s (λ k. omega (arith, c.type_inv.s k)) at
