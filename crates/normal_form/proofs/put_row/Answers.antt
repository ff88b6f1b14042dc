use mathlib.Core.Path.{refl, ap, ◌∙◌}
use Prim.Native.Nat.{◌+◌}
use lib.ListN.{length}
use Rattle.wire.specs.Bytes.{overwrite}
use Rattle.wire.specs.Word.{bytes_of}
use Rattle.normal_form.proofs.EncodeLaws.{put_line}
use Rattle.normal_form.proofs.put_row.Goals as goal

pub returns : goal.returns
returns c =
    let a = c.args in
    let id = a.entry.id.now in
    c.copy_at.ensures
    ∙ ap (λ r. overwrite r (a.at + 24) id)
    (c.put_word8-3.ensures
    ∙ ap (λ r. overwrite r (a.at + 16) (bytes_of 8 (length id)))
    (c.put_word8-2.ensures ∙ ap (λ r. overwrite r (a.at + 8) (bytes_of 8 (length a.entry.image.now))) c.put_word8.ensures))
    ∙ put_line a.out.now a.at a.offset (length a.entry.image.now) (length id) id refl c.requires
