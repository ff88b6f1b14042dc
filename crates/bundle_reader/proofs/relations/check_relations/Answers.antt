use native.Mathlib.Omega.{arith}
use Prim.Native.Nat.{◌+◌}
use mathlib.Core.Path.{◌≡◌, sym, ap, ◌∙◌}
use mathlib.Core.Bool.{false}
use lib.ListN.{length}
use borrow.Author.Count.{below_more, below_none}
use Rattle.wire.specs.Stop.{earlier}
use Rattle.wire.specs.Refusals.{stop_by}
use Rattle.wire.proofs.FirstLaws.{first_is}
use Rattle.wire.proofs.StopLaws.{stop_at_found, stop_at_go}
use Rattle.entry_id.specs.Canonical.{mixed_text}
use Rattle.entry_compare.specs.Relations.{is_same, is_mixed}
use Rattle.bundle_reader.specs.Examined.{id_at}
use Rattle.bundle_reader.specs.Slots.{near, first_found}
use Rattle.bundle_reader.proofs.RefusalLaws.{refuses_at, passes, found_none, found_here, found_next, found_stop, found_go}
use Rattle.bundle_reader.proofs.relations.check_relations.Goals.{in-Mixed, in-Apart}
use Rattle.bundle_reader.proofs.relations.check_relations.Goals as goal

pub loop-i-init : goal.loop-i-init
loop-i-init c = ((λ h. absurd (omega arith)), below_none _, found_none _)

pub returns-in-Same : goal.returns-in-Same
returns-in-Same c = let l = c.loop-i in
    ap stop_by c.at.ensures
    ∙ refuses_at 6 l.i _ _ (sym (stop_at_found 7 _ _ l.i (sym (first_is _ _ l.i (omega arith) (sym c.relation_before.ensures.same ∙ ap is_same c.in-Same.is) l.invariant.1)) (omega arith)))

pub loop-i-preserved : goal.loop-i-preserved
loop-i-preserved c =
    let l = c.loop-i in
    let r = c.relation_before in
    let p = earlier mixed_text (id_at c.args.ids.now) in
    let told : (is_same r.result ≡ false) × (c.match-relation_before.mixed ≡ first_found (l.i + 1) p) = elim c.match-relation_before.branch [
      | in-Mixed w ↦
          let other = ap is_same w.in-Mixed.is in
          (other, w.mixed-is ∙ w.or-mixed.ensures ∙ found_here l.i p l.mixed l.invariant.2 (sym (r.ensures.mixed other) ∙ ap is_mixed w.in-Mixed.is))
      | in-Apart w ↦
          let other = ap is_same w.in-Apart.is in
          (other, w.mixed-is ∙ found_next l.i p l.mixed l.invariant.2 (sym (r.ensures.mixed other) ∙ ap is_mixed w.in-Apart.is))
    ] in (
      (λ h. c.near_next-from.ensures ∙ ap (near c.args.ids.now) (omega arith)),
      below_more _ l.i l.invariant.1 (sym r.ensures.same ∙ told.0),
      told.1,
    )

pub returns-in-Some : goal.returns-in-Some
returns-in-Some c =
    let l = c.loop-i in
    let n : l.i ≡ length c.args.ids.now = omega arith in
    ap stop_by c.at-in-Some.ensures
    ∙ passes _ _ _ (sym (stop_at_go 7 _ _ (λ k h. l.invariant.1 k (omega arith))))
    (found_stop 8 _ _ c.in-Some.i (sym c.in-Some.is ∙ l.invariant.2 ∙ ap (λ m. first_found m (earlier mixed_text (id_at c.args.ids.now))) n))

pub returns-in-None : goal.returns-in-None
returns-in-None c =
    let l = c.loop-i in
    let n : l.i ≡ length c.args.ids.now = omega arith in
    passes _ _ _ (sym (stop_at_go 7 _ _ (λ k h. l.invariant.1 k (omega arith))))
    (found_go 8 _ _ (sym c.in-None.is ∙ l.invariant.2 ∙ ap (λ m. first_found m (earlier mixed_text (id_at c.args.ids.now))) n))
