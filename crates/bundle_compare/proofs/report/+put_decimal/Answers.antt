use Rattle.std.proofs.Common.{◌+◌, ◌/◌, ◌%◌, ◌<◌, ◌≤◌, [], ◌∷◌, length, ap, arith, length-append}
use Rattle.bundle.specs.Differences.{decimal}
use Rattle.bundle.proofs.DecimalLaws.{decimal_digit, decimal_more}
use Rattle.bundle_compare.proofs.PutLaws.{put_then, put_same}
use Rattle.bundle_compare.proofs.report.+put_decimal.Goals as goal

pub put_digit-requires : goal.put_digit-requires
put_digit-requires t c =
    let a = c.args in
    let h : a.v < 10 = c.if-v-lt10.true in
    let e = ap length (decimal_digit a.v h) in
    (h, omega (arith, c.requires, e))

pub returns-then-v-lt10 : goal.returns-then-v-lt10
returns-then-v-lt10 t c = put_same _ _ _ _ _ _ (decimal_digit c.args.v c.if-v-lt10.true) c.put_digit.ensures

pub put_decimal-next-requires : goal.put_decimal-next-requires
put_decimal-next-requires t c =
    let a = c.args in
    let h : 10 ≤ a.v = c.if-v-lt10.false in
    let e = ap length (decimal_more a.v h) in
    let l = length-append (decimal (a.v / 10)) ((48 + a.v % 10) ∷ []) in
    (omega arith, omega (arith, c.requires, e, l))

pub put_digit-requires-2 : goal.put_digit-requires-2
put_digit-requires-2 t c =
    let a = c.args in
    let h : 10 ≤ a.v = c.if-v-lt10.false in
    let e = ap length (decimal_more a.v h) in
    let l = length-append (decimal (a.v / 10)) ((48 + a.v % 10) ∷ []) in
    (omega arith, omega (arith, c.requires, e, l, c.put_decimal-next.ensures.next_is))

pub returns : goal.returns
returns t c =
    put_same _ _ _ _ _ _ (decimal_more c.args.v c.if-v-lt10.false) (put_then _ _ _ _ _ _ _ _ c.put_decimal-next.ensures c.put_digit-2.ensures)
