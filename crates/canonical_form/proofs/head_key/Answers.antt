use Rattle.std.proofs.Common.{◌+◌, ◌%◌, ◌^◌, drop, sym, ap, ◌∙◌, ap₂, arith}
use Rattle.entry_id.specs.Scan.{part}
use Rattle.entry_id.specs.Canonical.{head_number, key_of, after_kind}
use Rattle.entry_id.proofs.RunLaws.{part_rest}
use Rattle.canonical_form.specs.Made.{compared_length}
use Rattle.canonical_form.proofs.KeyLaws.{kind-short, compared_here}
use Rattle.canonical_form.proofs.head_key.Goals as goal

pub slice_bounds-key_behind-count : goal.slice_bounds-key_behind-count
slice_bounds-key_behind-count c = omega (arith, c.kind_length-kind.ensures, (kind-short _ c.requires).1)

pub slice_bounds-key_behind-start : goal.slice_bounds-key_behind-start
slice_bounds-key_behind-start c = omega (arith, c.kind_length-kind.ensures, (kind-short _ c.requires).1)

pub returns : goal.returns
unfolding key_of after_kind part
returns c =
    let x = c.args.head.now in
    let h = c.requires in
    let k = c.kind_length-kind in
    c.key_behind.ensures
    ∙ ap₂ (λ n m. (n + m) % 2 ^ 64) (ap head_number (part_rest x k.result ∙ ap (λ n. drop n x) k.ensures)) (ap compared_length k.ensures ∙ sym (compared_here x h))
