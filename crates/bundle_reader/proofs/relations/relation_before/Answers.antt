use native.Mathlib.Omega.{arith}
use mathlib.Core.Path.{◌≡◌, refl, sym, ap, ap₂, ◌∙◌}
use mathlib.Core.Bool.{true, false, ◌||◌}
use borrow.Author.Count.{below_more}
use Rattle.wire.specs.First.{any_below}
use Rattle.wire.specs.Stop.{earlier}
use Rattle.wire.proofs.Bools.{or_true, or_false}
use Rattle.wire.proofs.FirstLaws.{any_some, any_none}
use Rattle.entry_id.specs.Canonical.{same_text, mixed_text}
use Rattle.entry_compare.specs.Relations.{is_same, is_mixed}
use Rattle.bundle_reader.specs.Examined.{id_at}
use Rattle.bundle_reader.proofs.RefusalLaws.{any_more}
use Rattle.bundle_reader.proofs.IdLaws.{item_is, near_le, near-apart, unrelated-same, unrelated-mixed}
use Rattle.bundle_reader.proofs.relations.relation_before.Goals.{in-Mixed, in-Apart}
use Rattle.bundle_reader.proofs.relations.relation_before.Goals as goal

pub loop-j-init : goal.loop-j-init
loop-j-init c =
    let ids = c.args.ids.now in
    let from = c.requires.1 in (
      (λ k h. unrelated-same _ _ (near-apart ids c.args.i k (omega (arith, from)))),
      refl,
      sym (any_none _ _ (λ k h. unrelated-mixed _ _ (near-apart ids c.args.i k (omega (arith, from))))),
    )

pub returns-in-Same-clause-same : goal.returns-in-Same-clause-same
unfolding earlier
returns-in-Same-clause-same c =
    let ids = c.args.ids.now in
    let j = c.loop-j.j in
    let i = c.args.i in
    let same : same_text (id_at ids j) (id_at ids i) ≡ true =
    ap₂ same_text (sym (item_is ids j _ (omega arith) c.index-ids-j.is)) (sym (item_is ids i _ c.requires.0 c.index-ids-i.is))
    ∙ sym c.relation.ensures.0
    ∙ ap is_same c.in-Same.is in
    sym (any_some i (λ k. same_text (id_at ids k) (id_at ids i)) j (omega arith) same)

pub loop-j-preserved : goal.loop-j-preserved
loop-j-preserved c =
    let ids = c.args.ids.now in
    let j = c.loop-j.j in
    let i = c.args.i in
    let q = c.loop-j.invariant in
    let r = c.relation in
    let first = item_is ids j _ (omega arith) c.index-ids-j.is in
    let second = item_is ids i _ c.requires.0 c.index-ids-i.is in
    let told : (is_same r.result ≡ false) × (is_same c.match-relation.found ≡ false) × (is_mixed c.match-relation.found ≡ (is_mixed c.loop-j.found || is_mixed r.result)) = elim c.match-relation.branch [
      | in-Mixed w ↦ (
        ap is_same w.in-Mixed.is,
        ap is_same w.found-is,
        ap is_mixed w.found-is ∙ sym (ap (λ x. is_mixed c.loop-j.found || is_mixed x) w.in-Mixed.is ∙ or_true (is_mixed c.loop-j.found)),
      )
      | in-Apart w ↦ (
        ap is_same w.in-Apart.is,
        ap is_same w.found-is ∙ q.1,
        ap is_mixed w.found-is ∙ sym (ap (λ x. is_mixed c.loop-j.found || is_mixed x) w.in-Apart.is ∙ or_false (is_mixed c.loop-j.found)),
      )
    ] in (
      below_more _ j q.0 (ap₂ same_text (sym first) (sym second) ∙ sym r.ensures.0 ∙ told.0),
      told.1,
      told.2 ∙ ap₂ ◌||◌ q.2 (r.ensures.1 ∙ ap₂ mixed_text first second) ∙ sym (any_more j (λ k. mixed_text (id_at ids k) (id_at ids i))),
    )

pub returns-clause-same : goal.returns-clause-same
unfolding earlier
returns-clause-same c = c.loop-j.invariant.1 ∙ sym (any_none _ _ (λ k h. c.loop-j.invariant.0 k (omega arith)))

pub returns-clause-mixed : goal.returns-clause-mixed
unfolding earlier
returns-clause-mixed c = λ y.
    let ids = c.args.ids.now in
    let e : c.loop-j.j ≡ c.args.i = omega (arith, c.requires.1, near_le ids c.args.i) in
    c.loop-j.invariant.2 ∙ ap (λ z. any_below z (λ k. mixed_text (id_at ids k) (id_at ids c.args.i))) e
