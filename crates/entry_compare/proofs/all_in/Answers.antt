use Rattle.std.proofs.Common.{rules}
use Rattle.wire.specs.Lists.{any}
use Rattle.wire.specs.Bytes.{same}
use Rattle.entry_id.specs.Scan.{pieces_at}
use Rattle.entry_id.specs.Canonical.{within}
use Rattle.entry_compare.proofs.all_in.Goals as goal

pub returns : goal.returns
unfolding within
returns c = c.all_pieces.ensures (λ p. any (same p) (pieces_at c.args.b.now c.args.t)) (λ p r f. search rules)
