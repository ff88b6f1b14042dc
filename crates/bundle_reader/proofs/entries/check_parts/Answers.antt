use native.Mathlib.Omega.{arith}
use mathlib.Core.Path.{sym, ap, ◌∙◌}
use borrow.Author.Count.{below_more}
use borrow.Author.Tests.{lt-ltb, le-ltb}
use Rattle.wire.specs.Stop.{◌⨾◌, stop_if, stop_when}
use Rattle.wire.specs.Refusals.{stop_by}
use Rattle.wire.proofs.FirstLaws.{first_is}
use Rattle.wire.proofs.StopLaws.{stop_if-go, stop_at_found, stop_at_go}
use Rattle.bundle.specs.Records.{record_at}
use Rattle.bundle_reader.proofs.RefusalLaws.{passes}
use Rattle.bundle_reader.proofs.entries.check_parts.Goals as goal

pub returns-then-records-gt64 : goal.returns-then-records-gt64
unfolding stop_if stop_when ◌⨾◌
returns-then-records-gt64 c = ap stop_by c.at.ensures ∙ rw (lt-ltb 64 _ c.if-records-gt64.true)

pub returns-then-bad_part : goal.returns-then-bad_part
unfolding record_at
returns-then-bad_part c =
    let l = c.loop-i in
    ap stop_by c.at-then-bad_part.ensures
    ∙ passes _ _ _ (sym (stop_if-go 3 _ (le-ltb 64 _ c.if-records-gt64.false)))
    (sym (stop_at_found 4 _ _ l.i (sym (first_is _ _ l.i (omega arith) (sym c.bad_part.ensures ∙ c.if-bad_part.true) l.invariant)) (omega arith)))

pub loop-i-preserved : goal.loop-i-preserved
unfolding record_at
loop-i-preserved c = below_more _ c.loop-i.i c.loop-i.invariant (sym c.bad_part.ensures ∙ c.if-bad_part.false)

pub returns : goal.returns
returns c = passes _ _ _ (sym (stop_if-go 3 _ (le-ltb 64 _ c.if-records-gt64.false))) (sym (stop_at_go 4 _ _ (λ k h. c.loop-i.invariant k (omega arith))))
