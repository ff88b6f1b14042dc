use Rattle.std.proofs.Common.{take, sym, refl, ap, ◌∙◌, arith, length-set, eqb-true, take-append-drop, ◌++◌}
use Rattle.canonical_form.proofs.OrderLaws.{every_at, placed_here, placed_step, placed_last, new_before, new_same, new_step, new_last, rising_step, good_step}
use Rattle.canonical_form.proofs.features.place.Goals as goal

pub loop-i-init : goal.loop-i-init
loop-i-init c = let q = c.requires in record { size = refl; all_good = q.1; made = refl; fresh = refl; rises = q.2; kept = λ e. refl }

pub name-requires : goal.name-requires
name-requires c = every_at _ _ _ _ (omega arith) c.loop-i.invariant.all_good

pub name-requires-in-loop-i : goal.name-requires-in-loop-i
name-requires-in-loop-i c = every_at _ _ _ _ (omega arith) c.loop-i.invariant.all_good

pub returns-in-Less : goal.returns-in-Less
returns-in-Less c =
    let x = c.args.id.now in
    let l = c.loop-i in
    let v = l.invariant in
    let b = rw (c.name.ensures, c.name-in-loop-i.ensures) at c.in-Less.ensures in
    record {
      fresh = new_before x l.spans l.i _ (omega arith) v.rises (sym b.0) ∙ v.fresh;
      made = (sym (take-append-drop l.i l.spans) ∙ ap (λ r. take l.i l.spans ++ r) (placed_here x l.spans l.i _ (omega arith) (sym b.0)) ∙ v.made, λ z. v.kept (eqb-true l.i 0 z));
    }

pub returns-in-Equal : goal.returns-in-Equal
returns-in-Equal c =
    let x = c.args.id.now in
    let l = c.loop-i in
    let b = rw (c.name.ensures, c.name-in-loop-i.ensures) at c.in-Equal.ensures in
    record { fresh = new_same x l.spans l.i _ (omega arith) (sym b.1) ∙ l.invariant.fresh; made = tt }

pub loop-i-preserved : goal.loop-i-preserved
loop-i-preserved c =
    let x = c.args.id.now in
    let l = c.loop-i in
    let v = l.invariant in
    let b = rw (c.name.ensures, c.name-in-loop-i.ensures) at c.in-Greater.ensures in
    record {
      size = simp length-set v.size;
      all_good = good_step x l.spans l.i _ (omega arith) v.all_good;
      made = placed_step x l.spans l.i _ (omega arith) (sym b.0) ∙ v.made;
      fresh = new_step x l.spans l.i _ (omega arith) (sym b.1) ∙ v.fresh;
      rises = rising_step x l.spans l.i _ (omega arith) v.rises;
      kept = λ z. absurd (omega arith);
    }

pub returns : goal.returns
returns c =
    let x = c.args.id.now in
    let l = c.loop-i in
    let v = l.invariant in
    record {
      fresh = new_last x l.spans l.i (record { at = 0; sign = 0 }) (omega arith) (omega arith) ∙ v.fresh;
      made = (sym (take-append-drop l.i l.spans) ∙ ap (λ r. take l.i l.spans ++ r) (placed_last x l.spans l.i (record { at = 0; sign = 0 }) (omega arith) (omega arith)) ∙ v.made, λ z. v.kept (let q = eqb-true _ 1 z in omega arith));
    }
