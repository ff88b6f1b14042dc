use native.Mathlib.Omega.{arith}
use Rattle.bundle.proofs.DecimalLaws.{decimal_most}
use Rattle.bundle_compare.proofs.PutLaws.{put_then}
use Rattle.bundle_compare.proofs.report.put_number.Goals as goal

pub put_decimal-end-requires : goal.put_decimal-end-requires
put_decimal-end-requires c = omega (arith, c.requires, c.put-digits.ensures.next_is, decimal_most 19 c.args.v (omega arith))

pub put-requires : goal.put-requires
put-requires c = omega (arith, c.requires, c.put-digits.ensures.next_is, c.put_decimal-end.ensures.next_is, decimal_most 19 c.args.v (omega arith))

pub returns : goal.returns
returns c =
    let p = put_then _ _ _ _ _ _ _ _ (put_then _ _ _ _ _ _ _ _ c.put-digits.ensures c.put_decimal-end.ensures) c.put.ensures in
    (p, omega (arith, c.put-digits.ensures.next_is, c.put_decimal-end.ensures.next_is, c.put.ensures.next_is, decimal_most 19 c.args.v (omega arith)))
