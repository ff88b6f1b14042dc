use Rattle.std.proofs.Common.{◌≡◌, true, T, sym, ap, ◌∙◌, subst, add-one, arith}
use Rattle.wire.proofs.Bools.{is_false, of_true}
use Rattle.entry_id.specs.Scan.{ends_at}
use Rattle.entry_id.specs.Canonical.{sign_byte}
use Rattle.canonical_form.proofs.PieceLaws.{piece-good, sign_inside}
use Rattle.canonical_form.proofs.features.sign_at.Goals as goal

pub returns-then-r-from : goal.returns-then-r-from
returns-then-r-from c = let e = c.name_end-r in is_false _ (λ t. let p = piece-good c.args.id.now c.args.from e.result e.ensures t in omega (arith, p.some))

pub returns-then-not-s : goal.returns-then-not-s
unfolding sign_byte
returns-then-not-s c =
    let e = c.name_end-r in
    is_false _ (λ t. let p = piece-good c.args.id.now c.args.from e.result e.ensures t in subst T (ap sign_byte (sym c.byte-s.ensures) ∙ c.if-not-s.true) p.sgn)

pub returns-then-ends : goal.returns-then-ends
unfolding sign_byte
returns-then-ends c =
    let x = c.args.id.now in
    let e = c.name_end-r in
    let s : sign_byte c.byte-s.result ≡ true = c.if-not-s.false in
    let t = of_true _ (ap sign_byte (sym c.byte-s.ensures) ∙ s) in
    record {
      some = omega (arith, e.ensures.low, c.if-r-from.false);
      inside = sign_inside x e.result t;
      bytes = e.ensures.passed;
      sgn = t;
      ends = ap (ends_at x) (sym (add-one e.result)) ∙ sym c.ends.ensures ∙ c.if-ends.true;
    }

pub returns : goal.returns
returns c =
    let x = c.args.id.now in
    let e = c.name_end-r in
    is_false _ (λ t. let p = piece-good x c.args.from e.result e.ensures t in subst T (sym p.ends ∙ ap (ends_at x) (sym (add-one e.result)) ∙ sym c.ends.ensures ∙ c.if-ends.false) tt)
