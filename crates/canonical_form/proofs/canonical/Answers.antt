use Rattle.std.proofs.Common.{◌+◌, ◌≤◌, length, sym, ap, ◌∙◌, subst, arith, length-take-le}
use Rattle.entry_id.specs.Canonical.{canonical_in, kind_part, after_kind, key_of}
use Rattle.wire.proofs.OverwriteLaws.{length-overwrite}
use Rattle.canonical_form.specs.Heads.{Kinded}
use Rattle.canonical_form.proofs.PlanLaws.{canon-none, canon_small, plan_length, canon-written, head_written, head_kinded, form_is}
use Rattle.canonical_form.proofs.MadeLaws.{no_form}
use Rattle.canonical_form.proofs.canonical.Goals as goal

pub returns-in_err-plan : goal.returns-in_err-plan
returns-in_err-plan c =
    let x = c.args.id.now in
    let o = c.args.out.now in
    rw c.from_residual.ensures (no_form (canonical_in (length o) x) o (canon-none (length o) x c.in_err-plan.ensures))

pub overflow_add-length : goal.overflow_add-length
overflow_add-length c =
    let x = c.args.id.now in
    let o = c.args.out.now in
    let m = c.in_ok-plan.plan in
    let t = c.read.new.spans in
    let pl = c.in_ok-plan.ensures in
    omega (arith, pl.few_dashes)

pub returns-then-out-length : goal.returns-then-out-length
returns-then-out-length c =
    let x = c.args.id.now in
    let o = c.args.out.now in
    let m = c.in_ok-plan.plan in
    let t = c.read.new.spans in
    let pl = c.in_ok-plan.ensures in
    let e = canon_small x m t pl (length o) c.if-out-length.true in
    no_form (canonical_in (length o) x) o e

pub put_text-requires : goal.put_text-requires
put_text-requires c =
    let x = c.args.id.now in
    let o = c.args.out.now in
    let m = c.in_ok-plan.plan in
    let t = c.read.new.spans in
    let pl = c.in_ok-plan.ensures in
    (omega (arith, pl.place, pl.below), (pl.within, (pl.few_dashes, omega (arith, pl.within, c.if-out-length.false))))

pub overflow_add-head : goal.overflow_add-head
overflow_add-head c =
    let x = c.args.id.now in
    let o = c.args.out.now in
    let m = c.in_ok-plan.plan in
    let t = c.read.new.spans in
    let pl = c.in_ok-plan.ensures in
    omega (arith, pl.few_dashes, pl.below, pl.within)

pub slice_bounds-head_key-end : goal.slice_bounds-head_key-end
slice_bounds-head_key-end c =
    let x = c.args.id.now in
    let o = c.args.out.now in
    let m = c.in_ok-plan.plan in
    let t = c.read.new.spans in
    let pl = c.in_ok-plan.ensures in
    let z = ap length c.put_text.ensures ∙ length-overwrite o 0 _ in
    omega (arith, z, pl.below, pl.within, c.if-out-length.false)

pub slice_bounds-head_key-end-2 : goal.slice_bounds-head_key-end-2
slice_bounds-head_key-end-2 c =
    let x = c.args.id.now in
    let o = c.args.out.now in
    let m = c.in_ok-plan.plan in
    let t = c.read.new.spans in
    let pl = c.in_ok-plan.ensures in
    let h = c.put_text in
    let z = ap length h.ensures ∙ length-overwrite o 0 _ in
    sym (length-take-le (m.head.stop + m.head.dashes) h.new.out (omega (arith, z, pl.below, pl.within, c.if-out-length.false)))

pub head_key-key-requires : goal.head_key-key-requires
head_key-key-requires c =
    let x = c.args.id.now in
    let o = c.args.out.now in
    let m = c.in_ok-plan.plan in
    let t = c.read.new.spans in
    let pl = c.in_ok-plan.ensures in
    let h = c.put_text in
    let room : length x + m.head.dashes ≤ length o = c.if-out-length.false in
    subst Kinded
    (sym (head_written x m t pl o room h.new.out h.ensures))
    (head_kinded x m t pl o room)

pub overflow_add-plan : goal.overflow_add-plan
overflow_add-plan c =
    let x = c.args.id.now in
    let o = c.args.out.now in
    let m = c.in_ok-plan.plan in
    let t = c.read.new.spans in
    let pl = c.in_ok-plan.ensures in
    omega (arith, pl.few_dashes, pl.within)

pub put_pieces-requires : goal.put_pieces-requires
put_pieces-requires c =
    let x = c.args.id.now in
    let o = c.args.out.now in
    let m = c.in_ok-plan.plan in
    let t = c.read.new.spans in
    let pl = c.in_ok-plan.ensures in
    let z = ap length c.put_text.ensures ∙ length-overwrite o 0 _ in
    (pl.all_good, omega (arith, z, plan_length x m t pl, c.if-out-length.false))

pub returns : goal.returns
returns c =
    let x = c.args.id.now in
    let o = c.args.out.now in
    let m = c.in_ok-plan.plan in
    let t = c.read.new.spans in
    let pl = c.in_ok-plan.ensures in
    let h = c.put_text in
    let w = c.head_key-key in
    let q = c.put_pieces in
    let room : length x + m.head.dashes ≤ length o = c.if-out-length.false in
    let hd = head_written x m t pl o room h.new.out h.ensures in
    (form_is x m t pl o room w.result (w.ensures ∙ ap (λ h. key_of (kind_part h) (after_kind h)) hd), canon-written x m t pl o room h.new.out q.new.out h.ensures q.ensures)
