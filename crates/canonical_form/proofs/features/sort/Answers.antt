use Rattle.std.proofs.Common.{◌≡◌, suc, ◌-◌, sym, refl, ◌∙◌, arith}
use Rattle.wire.proofs.Bools.{and_both, is_true}
use Rattle.canonical_form.specs.Spans.{name_of}
use Rattle.canonical_form.proofs.OrderLaws.{sort_none, distinct_none, part_may, place_none, place_some}
use Rattle.canonical_form.proofs.features.sort.Goals as goal

pub loop-k-init : goal.loop-k-init
loop-k-init c = let a = c.args in record { made = sort_none a.id.now a.spans.now; apart = distinct_none (name_of a.id.now) a.spans.now; kept = λ z. refl }

pub place-requires : goal.place-requires
place-requires c =
    let l = c.loop-k in
    let e : l.k ≡ suc (l.k - 1) = omega arith in
    let m = rw e at l.invariant.made in
    let a = rw e at l.invariant.apart in
    part_may _ _ _ (l.k - 1) (record { at = 0; sign = 0 }) (omega arith) m c.requires a

pub returns-in_err-tidy : goal.returns-in_err-tidy
returns-in_err-tidy c =
    let l = c.loop-k in
    let e : l.k ≡ suc (l.k - 1) = omega arith in
    let m = rw e at l.invariant.made in
    let a = rw e at l.invariant.apart in
    rw c.from_residual.ensures (record { apart = place_none _ _ _ (l.k - 1) (record { at = 0; sign = 0 }) (omega arith) m _ a c.in_err-tidy.ensures; made = tt })

pub loop-k-preserved : goal.loop-k-preserved
loop-k-preserved c =
    let l = c.loop-k in
    let e : l.k ≡ suc (l.k - 1) = omega arith in
    let m = rw e at l.invariant.made in
    let a = rw e at l.invariant.apart in
    let p = place_some _ _ _ (l.k - 1) (record { at = 0; sign = 0 }) (omega arith) m _ a _ c.in_ok-tidy.ensures in
    record { made = p.0; apart = p.1; kept = λ z. let (t, u) = and_both _ _ z in p.2 u ∙ l.invariant.kept t }

pub returns : goal.returns
returns c =
    let l = c.loop-k in
    let e : l.k ≡ 0 = omega arith in
    let m = rw e at l.invariant.made in
    let a = rw e at l.invariant.apart in
    record { apart = sym (is_true _ a); made = (m, l.invariant.kept) }
