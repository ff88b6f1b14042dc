use Rattle.std.proofs.Common.{not, ap, ◌∙◌, rules}
use Rattle.wire.specs.Bytes.{same}
use Rattle.entry_compare.proofs.TestLaws.{none_fails}
use Rattle.entry_compare.proofs.has_piece.Goals as goal

pub returns : goal.returns
returns c = ap not (c.all_pieces.ensures (λ q. not (same c.args.p.now q)) (λ q r f. search rules)) ∙ none_fails (same c.args.p.now) _
