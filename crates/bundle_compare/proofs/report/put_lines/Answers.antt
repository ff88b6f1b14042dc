use native.Mathlib.Omega.{arith}
use Rattle.wire.proofs.ListLaws.{at_member}
use Rattle.bundle_compare.specs.Code.{no_difference}
use Rattle.bundle_compare.proofs.PutLaws.{put_then, put_same}
use Rattle.bundle_compare.proofs.TextLaws.{lines_none, lines_next, lines_all}
use Rattle.bundle_compare.proofs.report.put_lines.Goals as goal

pub loop-difference-init : goal.loop-difference-init
loop-difference-init c = (omega arith, lines_none _)

pub put_line-at-requires : goal.put_line-at-requires
put_line-at-requires c =
    let l = c.loop-difference in
    (c.requires.1 _ (at_member c.args.found.now no_difference l.difference-index (omega arith)), omega (arith, c.requires.0, l.invariant.0))

pub loop-difference-preserved : goal.loop-difference-preserved
loop-difference-preserved c =
    let l = c.loop-difference in
    let w = c.put_line-at.ensures in (
      omega (arith, l.invariant.0, w.1),
      put_same _ _ _ _ _ _ (lines_next c.args.found.now l.difference-index no_difference (omega arith)) (put_then _ _ _ _ _ _ _ _ l.invariant.1 w.0),
    )

pub returns : goal.returns
returns c =
    let l = c.loop-difference in
    (put_same _ _ _ _ _ _ (lines_all c.args.found.now l.difference-index (omega arith)) l.invariant.1, omega (arith, l.invariant.0, c.requires.0))
