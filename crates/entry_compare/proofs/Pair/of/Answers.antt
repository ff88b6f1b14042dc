use Rattle.std.proofs.Common.{sym, ap₂, ◌∙◌, length-take-le}
use Rattle.wire.specs.Bytes.{same, common}
use Rattle.entry_id.specs.Scan.{part}
use Rattle.entry_id.proofs.RunLaws.{part_rest}
use Rattle.entry_compare.proofs.KindLaws.{kinds_differ, behind-kinds, uncut}
use Rattle.entry_compare.proofs.Pair.of.Goals as goal

pub returns-then-pair-ne-HIP : goal.returns-then-pair-ne-HIP
returns-then-pair-ne-HIP c = λ test h.
    let p = c.new-pair in
    ap₂ test p.ensures.0 p.ensures.1 ∙ uncut _ _ p.result.shared (p.result.shared_is ∙ ap₂ common p.ensures.0 p.ensures.1) c.if-pair-ne-HIP.true test h

pub slice_bounds-compared_kind-end : goal.slice_bounds-compared_kind-end
slice_bounds-compared_kind-end c = sym (length-take-le _ _ c.kind_end-i.ensures.within)

pub slice_bounds-compared_kind-end-2 : goal.slice_bounds-compared_kind-end-2
slice_bounds-compared_kind-end-2 c = sym (length-take-le _ _ c.kind_end-j.ensures.within)

pub returns-then-not-same_bytes : goal.returns-then-not-same_bytes
returns-then-not-same_bytes c =
    kinds_differ _ _ _ _ c.kind_end-i.ensures c.kind_end-j.ensures _ (c.same_bytes.ensures ∙ ap₂ same c.compared_kind.ensures c.compared_kind-2.ensures) c.if-not-same_bytes.true

pub returns : goal.returns
unfolding part
returns c = λ test h.
    let p = c.new.ensures in
    behind-kinds _ _ _ _ c.kind_end-i.ensures c.kind_end-j.ensures _ (c.same_bytes.ensures ∙ ap₂ same c.compared_kind.ensures c.compared_kind-2.ensures) c.if-not-same_bytes.false _ _
    (p.0 ∙ part_rest c.args.a.now c.kind_end-i.result) (p.1 ∙ part_rest c.args.b.now c.kind_end-j.result) test
