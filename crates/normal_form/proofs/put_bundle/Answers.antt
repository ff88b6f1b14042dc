use native.Mathlib.Omega.{arith}
use mathlib.Core.Path.{sym, ap, ◌∙◌}
use lib.ListN.{length, length-map}
use Rattle.wire.specs.Bytes.{overwrite}
use Rattle.wire.specs.Word.{bytes_of}
use Rattle.bundle.specs.Table.{magic}
use Rattle.bundle.specs.Layout.{table, packed, images}
use Rattle.bundle.proofs.PackLaws.{packed_lengths}
use Rattle.normal_form.specs.Code.{value, values}
use Rattle.normal_form.proofs.EncodeLaws.{put_all}
use Rattle.normal_form.proofs.put_bundle.Goals as goal

pub put_table-requires : goal.put_table-requires
put_table-requires c = let p = packed_lengths (values c.args.entries.now) in (omega (arith, c.requires.1, p), omega (arith, c.requires.0, c.requires.1, p))

pub put_images-requires : goal.put_images-requires
put_images-requires c = omega (arith, c.requires.0, c.requires.1, packed_lengths (values c.args.entries.now))

pub returns : goal.returns
unfolding magic
returns c =
    let a = c.args in
    let es = values a.entries.now in
    c.put_images.ensures
    ∙ ap (λ r. overwrite r a.base (images es))
    (c.put_table.ensures
    ∙ ap (λ r. overwrite r 32 (table (packed a.base es)))
    (c.put_word8.ensures ∙ ap (λ r. overwrite r 24 (bytes_of 8 (length a.entries.now))) c.copy_at.ensures))
    ∙ put_all es a.base (length a.entries.now) a.out.now c.requires.0 (sym (length-map a.entries.now value)) c.requires.1
