use native.Mathlib.Omega.{arith}
use Rattle.wire.specs.Refusals.{number_of}
use Rattle.bundle_compare.proofs.PutLaws.{put_then, put_same}
use Rattle.bundle_compare.proofs.TextLaws.{refused-bytes}
use Rattle.bundle_compare.proofs.report.put_refused.Goals as goal

pub returns : goal.returns
returns c =
    let number = rw c.number.ensures at c.put_number.ensures in (
      put_same _ _ _ _ _ _ (refused-bytes c.args.side.now (number_of c.args.reason)) (put_then _ _ _ _ _ _ _ _ (put_then _ _ _ _ _ _ _ _ c.put-name.ensures c.put-end.ensures) number.0),
      omega (arith, c.put-name.ensures.next_is, c.put-end.ensures.next_is, number.1, c.requires),
    )
