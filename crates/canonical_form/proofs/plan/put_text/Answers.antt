use Rattle.std.proofs.Common.{ℕ, ◌+◌, ◌-◌, [], ◌∷◌, take, drop, sym, ap, ◌∙◌, arith, length-take-le}
use Rattle.wire.specs.Bytes.{overwrite}
use Rattle.canonical_form.proofs.WriteLaws.{head_over, head_whole, dashes-length}
use Rattle.canonical_form.proofs.plan.put_text.Goals as goal

-- `plan::put_text` meets its contract. Assumes nothing.
pub slice_bounds-copy_at-end : goal.slice_bounds-copy_at-end
slice_bounds-copy_at-end c =
    let a = c.args in
    sym (length-take-le a.upto a.id.now (omega arith))

pub returns-then-dashes-eq0 : goal.returns-then-dashes-eq0
returns-then-dashes-eq0 c =
    let a = c.args in
    c.copy_at.ensures ∙ ap (overwrite a.out.now 0) (head_whole a.id.now a.at a.dashes a.upto (omega arith) (omega arith))

pub slice_bounds-copy_at-end-2 : goal.slice_bounds-copy_at-end-2
slice_bounds-copy_at-end-2 c =
    let a = c.args in
    sym (length-take-le a.at a.id.now (omega arith))

pub slice_bounds-copy_at-end-3 : goal.slice_bounds-copy_at-end-3
slice_bounds-copy_at-end-3 c = sym (dashes-length c.args.dashes (omega arith))

pub returns : goal.returns
returns c =
    let a = c.args in
    let h = a.id.now in
    let d = take {A = ℕ} a.dashes (45 ∷ 45 ∷ []) in
    let b = take (a.upto - a.at) (drop a.at h) in
    c.copy_at-4.ensures
    ∙ ap (λ l. overwrite l (a.at + a.dashes) b) (c.copy_at-3.ensures ∙ ap (λ l. overwrite l a.at d) c.copy_at-2.ensures)
    ∙ head_over a.out.now h a.at a.dashes a.upto (omega arith) (omega arith) (omega arith) (omega arith)
