use native.Mathlib.Omega.{arith}
use mathlib.Core.Path.{sym, ap, ◌∙◌}
use lib.Seq.{length-take-le}
use Rattle.wire.specs.Bytes.{overwrite}
use Rattle.bundle_compare.proofs.PutLaws.{put_end, put_taken}
use Rattle.bundle_compare.proofs.report.write_refused.Goals as goal

pub slice_bounds-line-end : goal.slice_bounds-line-end
slice_bounds-line-end c = omega (arith, c.put_refused-len.ensures.1, c.put_refused-len.ensures.0.length_is)

pub slice_bounds-copy_at-end : goal.slice_bounds-copy_at-end
slice_bounds-copy_at-end c = sym (length-take-le _ _ (omega (arith, c.put_refused-len.ensures.1, c.put_refused-len.ensures.0.length_is)))

pub returns : goal.returns
returns c =
    let p = c.put_refused-len.ensures.0 in
    let e = put_end _ _ _ _ p in
    (e, c.copy_at.ensures ∙ ap (overwrite c.args.out.now 0) (put_taken _ _ _ _ p (omega (arith, e, c.put_refused-len.ensures.1))))
