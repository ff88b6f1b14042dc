use Rattle.std.proofs.Common.{suc, ◌+◌, map, refl, ◌∙◌, inl, inr, append-nil, add-one, arith, length-set}
use Rattle.wire.specs.Lists.{every}
use Rattle.canonical_form.specs.Spans.{piece_at, Piece}
use Rattle.canonical_form.proofs.SpanLaws.{pieces_bad, pieces_many, pieces_more, good_more, both_false}
use Rattle.entry_id.proofs.RunLaws.{pieces_none}
use Rattle.canonical_form.proofs.features.read_pieces.Goals.{In_ok-sign}
use Rattle.canonical_form.proofs.features.read_pieces.Goals as goal

piece : (c : In_ok-sign) → Piece c.args.id.now (suc c.loop-at.at) c.in_ok-sign.sign
piece c =
    let p : Piece c.args.id.now (c.loop-at.at + 1) c.in_ok-sign.sign = c.in_ok-sign.ensures in
    rw (add-one c.loop-at.at) at p

pub loop-at-init : goal.loop-at-init
unfolding every
loop-at-init c = record { below = c.requires.0; few = omega arith; size = c.told-spans; ends = c.requires.1; are = refl; all_good = tt }

pub returns-in_err-sign : goal.returns-in_err-sign
returns-in_err-sign c =
    let l = c.loop-at in
    rw c.from_residual.ensures (both_false _ _ (inl (pieces_bad c.args.id.now c.args.stop l.at l.n l.spans l.invariant.are (omega arith) (rw (add-one l.at) at c.in_err-sign.ensures))))

pub returns-then-n-eq8 : goal.returns-then-n-eq8
returns-then-n-eq8 c =
    let l = c.loop-at in
    both_false _ _ (inr (pieces_many c.args.id.now c.args.stop l.at l.n l.spans l.invariant.are (omega arith) c.if-n-eq8.true (omega arith)))

pub bounds-spans-n : goal.bounds-spans-n
bounds-spans-n c = omega arith

pub overflow_add-at-in-loop-at : goal.overflow_add-at-in-loop-at
overflow_add-at-in-loop-at c = let p = piece (goal.at.overflow_add-at-in-loop-at c).In_ok-sign in omega (arith, p.inside)

pub loop-at-smaller : goal.loop-at-smaller
loop-at-smaller c = let p = piece (goal.at.loop-at-smaller c).In_ok-sign in omega (arith, p.inside, p.some)

pub loop-at-preserved : goal.loop-at-preserved
loop-at-preserved c =
    let x = c.args.id.now in
    let l = c.loop-at in
    let v = l.invariant in
    let p = piece (goal.at.loop-at-preserved c).In_ok-sign in
    let s = c.in_ok-sign.sign in
    record {
      below = omega (arith, p.inside);
      few = omega arith;
      size = simp length-set v.size;
      ends = rw (add-one s) p.ends;
      are = pieces_more x c.args.stop l.at l.n l.spans v.are (omega arith) s p v.ends (omega arith);
      all_good = good_more x c.args.stop l.at l.n l.spans v.are (omega arith) s p v.ends (omega arith) v.all_good;
    }

pub returns : goal.returns
returns c =
    let x = c.args.id.now in
    let l = c.loop-at in
    let v = l.invariant in
    record { few = v.few; size = v.size; are = v.are ∙ rw (pieces_none x l.at (omega arith)) (append-nil (map (piece_at x) _)); all_good = v.all_good }
