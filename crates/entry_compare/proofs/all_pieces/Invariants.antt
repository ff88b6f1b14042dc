use Rattle.std.proofs.Common.{◌≡◌, ℕ, ◌-◌, Bool, List, length}
use Rattle.wire.specs.Lists.{every}
use Rattle.entry_id.specs.Scan.{pieces_at}
use Rattle.entry_compare.proofs.all_pieces.Given as goal

-- The pieces that are left decide.
abbrev pub invariant-loop-at : goal.invariant-loop-at
invariant-loop-at g l = (passes : List ℕ → Bool) → ((p : _) (r : Bool) → goal.F-post g l.test p r → r ≡ passes p.now) → every passes (pieces_at l.x l.stop) ≡ every passes (pieces_at l.x l.at)

abbrev pub decreases-loop-at : goal.decreases-loop-at
decreases-loop-at g l = length l.x - l.at
