use Rattle.std.proofs.Common.{suc, sym, ◌∙◌, arith, length-take-le}
use Rattle.canonical_form.proofs.HeadLaws.{match_then, triple_kind, triple_second, triple_third, triple_found, not_valid}
use Rattle.canonical_form.proofs.head.triple.Goals as goal

pub slice_bounds-is_kind-end : goal.slice_bounds-is_kind-end
slice_bounds-is_kind-end c = sym (length-take-le c.field_end-a.result c.args.id.now (omega arith))

pub returns-then-not-is_kind : goal.returns-then-not-is_kind
returns-then-not-is_kind c =
    let f = c.field_end-a in
    triple_kind c.args.id.now f.result f.ensures (sym c.is_kind.ensures ∙ c.if-not-is_kind.true)

pub returns-in_err-b : goal.returns-in_err-b
returns-in_err-b c = rw c.from_residual.ensures (not_valid c.args.id.now (c.in_err-b.ensures 0 2 c.field_end-a.ensures))

pub returns-in_err-c : goal.returns-in_err-c
returns-in_err-c c =
    let f = c.field_end-a in
    let b = c.in_ok-b in
    rw c.from_residual-in_err-c.ensures (triple_second c.args.id.now f.result f.ensures b.b b.ensures (c.in_err-c.ensures (suc f.result) 1 b.ensures.run))

pub returns : goal.returns
returns c =
    let x = c.args.id.now in
    let f = c.field_end-a in
    let b = c.in_ok-b in
    let d = c.in_ok-c in
    let k = sym c.is_kind.ensures ∙ c.if-not-is_kind.false in
    match_then c.next-3.result c.next-3.ensures
    (λ m. triple_third x f.result f.ensures b.b b.ensures d.c d.ensures (m (suc b.b) 0 d.ensures.run))
    (λ e n. triple_found x f.result f.ensures b.b b.ensures d.c d.ensures e n k)
