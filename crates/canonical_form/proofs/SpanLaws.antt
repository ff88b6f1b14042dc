-- Features as spans: the scan, name and piece of a span. Assumes nothing.
use Rattle.std.proofs.Common.{◌≡◌, ℕ, suc, ◌+◌, ◌<◌, ◌≤◌, Bool, true, false, ◌&&◌, T, eqb, ltb, leb, ◌⊎◌, List, [], ◌∷◌, ◌++◌, map, length, get_or, take, drop, set, sym, refl, ap, ◌∙◌, subst, inl, inr, append_assoc, add-one, arith, eqb→eq, ltb→lt, lt→ltb, leb→le, length-append, length-take-le, take-suc-set, eq-eqb}
use lib.ListN.{length-map}
use Rattle.wire.specs.Lists.{every}
use Rattle.entry_id.specs.Text.{split_on}
use Rattle.wire.proofs.Bools.{and_l, and_r, and_t, is_true, is_false, of_true}
use Rattle.entry_id.proofs.TextLaws.{every_append, split_some}
use Rattle.entry_id.specs.Meaning.{name_byte}
use Rattle.entry_id.specs.Scan.{part, ends_at, pieces_at}
use Rattle.canonical_form.specs.Spans.{piece_ok, Piece, good, piece_at}
use Rattle.canonical_form.specs.declared.features.Span.{Span}
use Rattle.entry_id.specs.Canonical.{sign_byte}
use Rattle.entry_id.proofs.RunLaws.{pieces_here}
use Rattle.canonical_form.proofs.PieceLaws.{colon_there, piece_split}

pub map-append : {A B : Type 0} (f : A → B) (a b : List A) → map f (a ++ b) ≡ map f a ++ map f b
map-append f [] b = refl
map-append f (y ∷ a) b = ap (λ r. f y ∷ r) (map-append f a b)

pub every-right : {A : Type 0} (p : A → Bool) (a b : List A) → T (every p (a ++ b)) → T (every p b)
unfolding every
every-right p [] b t = t
every-right p (y ∷ a) b t = every-right p a b (and_r (p y) (every p (a ++ b)) t)

-- ---- a good span

pub record Good (x : List ℕ) (s : Span) : Type 0 where
  pub colon : get_or x s.at 0 ≡ 58
  pub piece : Piece x (suc s.at) s.sign

pub good-parts : (x : List ℕ) (s : Span) → T (good x s) → Good x s
unfolding good
good-parts x s t =
    let a : T (eqb (get_or x s.at 0) 58) = search (and_l, and_r) depth 8 in
    let b : T (ltb (suc s.at) s.sign) = search (and_l, and_r) depth 8 in
    let c : T (ltb s.sign (length x)) = search (and_l, and_r) depth 8 in
    let d : T (every name_byte (part x (suc s.at) s.sign)) = search (and_l, and_r) depth 8 in
    let e : T (sign_byte (get_or x s.sign 0)) = search (and_l, and_r) depth 8 in
    let f : T (ends_at x (suc s.sign)) = search (and_l, and_r) depth 8 in
    record {
      colon = eqb→eq (get_or x s.at 0) 58 a;
      piece = record { some = ltb→lt (suc s.at) s.sign b; inside = ltb→lt s.sign (length x) c; bytes = d; sgn = e; ends = is_true (ends_at x (suc s.sign)) f };
    }

pub parts-good : (x : List ℕ) (s : Span) → Good x s → T (good x s)
unfolding good
parts-good x s g =
    let a : T (eqb (get_or x s.at 0) 58) = of_true _ (eq-eqb (get_or x s.at 0) 58 g.colon) in
    let b : T (ltb (suc s.at) s.sign) = lt→ltb (suc s.at) s.sign g.piece.some in
    let c : T (ltb s.sign (length x)) = lt→ltb s.sign (length x) g.piece.inside in
    let d : T (every name_byte (part x (suc s.at) s.sign)) = g.piece.bytes in
    let e : T (sign_byte (get_or x s.sign 0)) = g.piece.sgn in
    let f : T (ends_at x (suc s.sign)) = of_true (ends_at x (suc s.sign)) g.piece.ends in
    search and_t depth 8

-- ---- the scan

module _ (x : List ℕ) (stop at n : ℕ) (t : List Span) (inv : pieces_at x stop ≡ map (piece_at x) (take n t) ++ pieces_at x at) (h : at < length x) where
  pub pieces_bad : every piece_ok (split_on 58 (drop (suc at) x)) ≡ false → every piece_ok (pieces_at x stop) ≡ false
  pieces_bad e = is_false (every piece_ok (pieces_at x stop))
      (λ u. subst T e (subst (λ (l : List (List ℕ)). T (every piece_ok l)) (pieces_here x at h) (every-right piece_ok (map (piece_at x) (take n t)) (pieces_at x at) (rw inv at u))))

  pub pieces_many : n ≡ 8 → n ≤ length t → leb (length (pieces_at x stop)) 8 ≡ false
  pieces_many e k = is_false (leb (length (pieces_at x stop)) 8) (λ u.
      let (q, qs, o) = split_some 58 (drop (suc at) x) in
      let l = ap length inv ∙ length-append (map (piece_at x) (take n t)) (pieces_at x at) in
      let m = length-map (take n t) (piece_at x) ∙ length-take-le n t k in
      let r = ap length (pieces_here x at h ∙ o) in
      let w = leb→le (length (pieces_at x stop)) 8 u in
      omega arith)

  module _ (sgn : ℕ) (p : Piece x (suc at) sgn) (c : ends_at x at ≡ true) (room : n < length t) where
    abbrev s : Span
    s = record { at = at; sign = sgn }

    new_good : T (good x s)
    new_good = parts-good x s (record { colon = colon_there x at h c; piece = p })

    pub pieces_more : pieces_at x stop ≡ map (piece_at x) (take (n + 1) (set t n s)) ++ pieces_at x (sgn + 1)
    unfolding piece_at
    pieces_more =
        inv ∙ ap (λ l. map (piece_at x) (take n t) ++ l) (pieces_here x at h ∙ piece_split x (suc at) sgn p)
        ∙ sym (append_assoc (map (piece_at x) (take n t)) (piece_at x s ∷ []) (pieces_at x (suc sgn)))
        ∙ ap (λ l. l ++ pieces_at x (suc sgn)) (sym (map-append (piece_at x) (take n t) (s ∷ [])) ∙ ap (map (piece_at x)) (sym (take-suc-set t n s room)))
        ∙ rw (add-one n, add-one sgn)

    pub good_more : T (every (good x) (take n t)) → T (every (good x) (take (n + 1) (set t n s)))
    unfolding every
    good_more g = rw (add-one n, take-suc-set t n s room) (every_append (good x) (take n t) (s ∷ []) g (and_t (good x s) true new_good tt))

pub both_false : (a b : Bool) → (a ≡ false) ⊎ (b ≡ false) → (a && b) ≡ false
both_false true b (inl e) = absurd (subst T e tt)
both_false true b (inr e) = e
both_false false b w = refl
