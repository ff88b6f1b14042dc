use native.Mathlib.Omega.{arith}
use mathlib.Core.Path.{sym}
use Rattle.wire.proofs.OverwriteLaws.{overwrite-not}
use Rattle.bundle_compare.proofs.PutLaws.{put_end}
use Rattle.bundle_compare.proofs.report.write_differences.Goals as goal

pub returns-then-out-len : goal.returns-then-out-len
returns-then-out-len c =
    let p = c.put_differences-len.ensures in
    let e = put_end _ _ _ _ p in
    (e, sym (overwrite-not c.args.out.now 0 _ (omega (arith, e, c.if-out-len.true))))

pub returns : goal.returns
returns c =
    let e = put_end _ _ _ _ c.put_differences-len.ensures in
    let p = c.put_differences.ensures in
    (put_end _ _ _ _ p, p.bytes_are (omega (arith, e, c.if-out-len.false)))
