use native.Mathlib.Omega.{arith}
use mathlib.Core.Path.{ap}
use lib.ListN.{length}
use Rattle.bundle_compare.proofs.PutLaws.{put_then, put_same}
use Rattle.bundle_compare.proofs.TextLaws.{line_images, line_alone}
use Rattle.bundle_compare.proofs.report.put_line.Goals as goal

pub returns-in-Images : goal.returns-in-Images
returns-in-Images c =
    let head = put_then _ _ _ _ _ _ _ _ c.put-name.ensures c.put-end.ensures in
    let p = put_then _ _ _ _ _ _ _ _ head c.put_number.ensures.0 in (
      put_same _ _ _ _ _ _ (line_images c.args.difference _ _ c.in-Images.id c.in-Images.n c.in-Images.is c.letter.ensures c.id.ensures) p,
      omega (arith, c.put-name.ensures.next_is, c.put-end.ensures.next_is, ap length c.id.ensures, c.requires.0, c.put_number.ensures.1),
    )

pub returns : goal.returns
returns c =
    let head = put_then _ _ _ _ _ _ _ _ c.put-name.ensures c.put-end.ensures in
    let p = put_then _ _ _ _ _ _ _ _ head c.put.ensures in (
      put_same _ _ _ _ _ _ (line_alone c.args.difference _ _ c.in_default.not-Images c.letter.ensures c.id.ensures) p,
      omega (arith, c.put-name.ensures.next_is, c.put-end.ensures.next_is, ap length c.id.ensures, c.requires.0, c.put.ensures.next_is),
    )
