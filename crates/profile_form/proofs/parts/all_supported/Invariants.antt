use Prim.Native.Nat.{◌-◌}
use mathlib.Core.Path.{◌≡◌}
use lib.ListN.{length}
use Rattle.wire.specs.Lists.{every}
use Rattle.entry_id.specs.Meaning.{feature}
use Rattle.entry_id.specs.Scan.{pieces_at}
use Rattle.entry_id.specs.Profile.{supported}
use Rattle.profile_form.proofs.parts.all_supported.Given as goal

-- `profile_form::all_supported` meets its contract. The loop's invariant: the pieces that are left decide. Assumes nothing.
abbrev pub invariant-loop-at : goal.invariant-loop-at
invariant-loop-at l = every (λ p. supported l.marks.sramecc l.marks.xnack (feature p)) (pieces_at l.x l.stop) ≡ every (λ p. supported l.marks.sramecc l.marks.xnack (feature p)) (pieces_at l.x l.at)

abbrev pub decreases-loop-at : goal.decreases-loop-at
decreases-loop-at l = length l.x - l.at
