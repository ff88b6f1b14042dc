use native.Mathlib.Omega.{arith}
use mathlib.Core.Path.{sym, ◌∙◌}
use borrow.Author.Count.{below_more}
use Rattle.wire.proofs.StopLaws.{earlier-none, earlier_some}
use Rattle.bundle.specs.Check.{overlaps}
use Rattle.bundle.specs.Records.{record_at}
use Rattle.bundle_reader.specs.Slots.{images}
use Rattle.bundle_reader.proofs.overlap.overlaps_before.Goals as goal

pub overlap-requires : goal.overlap-requires
unfolding record_at
overlap-requires c = let all = c.requires.0 in (all c.loop-j.j (omega arith), all c.args.i (omega arith))

pub returns-then-overlap : goal.returns-then-overlap
unfolding record_at
returns-then-overlap c = sym (earlier_some overlaps (images c.args.rows.now) c.args.i c.loop-j.j (omega arith) (sym c.overlap.ensures ∙ c.if-overlap.true))

pub loop-j-preserved : goal.loop-j-preserved
unfolding record_at
loop-j-preserved c = below_more _ c.loop-j.j c.loop-j.invariant (sym c.overlap.ensures ∙ c.if-overlap.false)

pub returns : goal.returns
returns c = sym (earlier-none overlaps _ _ (λ j h. c.loop-j.invariant j (omega arith)))
