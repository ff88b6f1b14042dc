use mathlib.Core.Path.{sym}
use lib.ListN.{length, length-map}
use Rattle.bundle_compare.specs.Code.{shown, shown_all}
use Rattle.bundle_compare.proofs.PutLaws.{put_then, put_same}
use Rattle.bundle_compare.proofs.TextLaws.{lines-bytes}
use Rattle.bundle_compare.proofs.report.put_differences.Goals as goal

pub returns : goal.returns
returns c =
    let found = c.args.found.now in
    put_same _ _ _ _ _ _ (lines-bytes (shown_all found) (length found) (sym (length-map found shown)))
    (put_then _ _ _ _ _ _ _ _ (put_then _ _ _ _ _ _ _ _ c.put_lines-last.ensures.0 c.put-end.ensures) c.put_number.ensures.0)
