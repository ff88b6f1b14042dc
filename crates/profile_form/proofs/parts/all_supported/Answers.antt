use native.Mathlib.Omega.{arith}
use Prim.Native.Nat.{◌+◌}
use mathlib.Core.Path.{◌≡◌, refl, sym, ap, ◌∙◌}
use mathlib.Core.Bool.{◌&&◌}
use Rattle.wire.specs.Lists.{every}
use Rattle.entry_id.specs.Meaning.{feature}
use Rattle.entry_id.specs.Scan.{part, pieces_at}
use Rattle.entry_id.specs.Profile.{supported}
use Rattle.profile_form.proofs.SeekLaws.{every-next, every_end}
use Rattle.profile_form.proofs.parts.all_supported.Goals as goal

pub loop-at-init : goal.loop-at-init
loop-at-init c = refl

pub returns-then-not-supported_piece : goal.returns-then-not-supported_piece
unfolding part
returns-then-not-supported_piece c = let x = c.args.x.now in
    let s = c.args.marks.sramecc in
    let y = c.args.marks.xnack in
    let l = c.loop-at in
    let e = c.seek-e.result in
    let n = every-next (λ p. supported s y (feature p)) x l.at e (omega arith) c.seek-e.ensures in
    let v : c.supported_piece.result ≡ supported s y (feature (part x (l.at + 1) e)) = c.supported_piece.ensures in
    sym (l.invariant ∙ n ∙ ap (λ b. b && every (λ p. supported s y (feature p)) (pieces_at x e)) (sym v ∙ c.if-not-supported_piece.true))

pub loop-at-preserved : goal.loop-at-preserved
unfolding part
loop-at-preserved c = let x = c.args.x.now in
    let s = c.args.marks.sramecc in
    let y = c.args.marks.xnack in
    let l = c.loop-at in
    let e = c.seek-e.result in
    let n = every-next (λ p. supported s y (feature p)) x l.at e (omega arith) c.seek-e.ensures in
    let v : c.supported_piece.result ≡ supported s y (feature (part x (l.at + 1) e)) = c.supported_piece.ensures in
    l.invariant ∙ n ∙ ap (λ b. b && every (λ p. supported s y (feature p)) (pieces_at x e)) (sym v ∙ c.if-not-supported_piece.false)

pub returns : goal.returns
returns c = let a = c.args in
    let l = c.loop-at in
    sym (l.invariant ∙ every_end (λ p. supported a.marks.sramecc a.marks.xnack (feature p)) a.x.now l.at (omega arith))
