use lib.ListN.{length, drop}
use Rattle.wire.specs.Bytes.{overwrite}
use Rattle.bundle.specs.Layout.{images}
use Rattle.normal_form.specs.Code.{values}
use Rattle.normal_form.proofs.EncodeLaws.{Left}
use Rattle.normal_form.proofs.put_images.Given as goal

abbrev pub invariant-loop-entry : goal.invariant-loop-entry
invariant-loop-entry l =
    let es = values l.entries in
    Left (length l.initial.out) (overwrite l.initial.out l.base (images es)) (images (drop l.entry-index es)) l.at l.out
