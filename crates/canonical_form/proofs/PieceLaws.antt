-- Pieces as runs of name bytes and a sign. Assumes nothing.
use Rattle.std.proofs.Common.{◌≡◌, ℕ, suc, ◌+◌, ◌-◌, ◌<◌, ◌≤◌, Bool, true, false, cond, not, T, eqb, ltb, List, [], ◌∷◌, ◌++◌, length, get_or, take, drop, sym, refl, ap, ◌∙◌, subst, inl, inr, append_assoc, append-nil, add-one, arith, eqb→eq, length-append, length-drop, drop_of_length-le, get_or-drop, drop-cons, take_at, get_or-append-add, ltb-false, ltb-true, le-ltb, lt-ltb, eqb-true}
use lib.Seq.{get_or_at}
use Rattle.wire.specs.Lists.{every}
use Rattle.entry_id.specs.Text.{split_on, join_with, other_than, not_colon}
use Rattle.wire.specs.Bytes.{empty}
use Rattle.wire.proofs.Bools.{and_l, and_r, and_t, or_t, is_true, is_false, of_true, cases}
use Rattle.entry_id.proofs.TextLaws.{every_append, every_imp, split_last, split_skip, split_some, join_split}
use Rattle.entry_id.specs.Meaning.{feature, piece, sign, signed, named, name_byte}
use Rattle.entry_id.proofs.CompareLaws.{piece-feature}
use Rattle.entry_id.proofs.ReadBack.{no_colon}
use Rattle.entry_id.specs.Scan.{part, Run, ends_at, pieces_at}
use Rattle.canonical_form.specs.Spans.{piece_ok, Piece}
use Rattle.entry_id.specs.Canonical.{sign_byte}
use Rattle.entry_id.proofs.RunLaws.{part-drop, part_more, part_length, byte_inside, some_of}

some_none : T (not (empty {A = ℕ} [])) → ⊥
unfolding empty
some_none t = t

-- the head ends before the text does: at a ':'
pub colon_there : (x : List ℕ) (e : ℕ) → e < length x → ends_at x e ≡ true → get_or x e 0 ≡ 58
unfolding ends_at
colon_there x e k t = eqb-true (get_or x e 0) 58 (rw (lt-ltb e (length x) k) at t)

-- ---- the length of a run

run_len : (ℕ → Bool) → List ℕ → ℕ
run_len p [] = 0
run_len p (b ∷ y) = cond (p b) (suc (run_len p y)) 0

module _ (p : ℕ → Bool) where
  run_len_at : (f : List ℕ) (s : ℕ) (r : List ℕ) → T (every p f) → p s ≡ false → run_len p (f ++ s ∷ r) ≡ length f
  unfolding run_len every
  run_len_at [] s r t e = rw e
  run_len_at (b ∷ f) s r t e = rw (is_true (p b) (and_l (p b) (every p f) t)) (ap suc (run_len_at f s r (and_r (p b) (every p f) t) e))

  run_len_end : (f : List ℕ) → T (every p f) → run_len p f ≡ length f
  unfolding run_len every
  run_len_end [] t = refl
  run_len_end (b ∷ f) t = rw (is_true (p b) (and_l (p b) (every p f) t)) (ap suc (run_len_end f (and_r (p b) (every p f) t)))

  run_length : (x : List ℕ) (a r : ℕ) → Run p x a r → r ≡ a + run_len p (drop a x)
  run_length x a r h =
      let l = part_length x a r h.low h.high in
      let y = part-drop x a r h.low in
      elim (cases (ltb r (length x))) [
        | inl e ↦
            let k = ltb-true r (length x) e in
            let z = ap (run_len p) (y ∙ ap (λ d. part x a r ++ d) (drop-cons x r 0 k)) ∙ run_len_at (part x a r) (get_or x r 0) (drop (suc r) x) h.passed (h.stop k) in
            let m = h.low in
            omega arith
        | inr e ↦
            let k = ltb-false r (length x) e in
            let z = ap (run_len p) (y ∙ ap (λ d. part x a r ++ d) (drop_of_length-le x k) ∙ append-nil (part x a r)) ∙ run_len_end (part x a r) h.passed in
            let m = h.low in
            omega arith
      ]

-- ---- the first piece

after : List (List ℕ) → List ℕ
after [] = []
after (p ∷ ps) = 58 ∷ join_with 58 (p ∷ ps)

join_after : (q : List ℕ) (qs : List (List ℕ)) → join_with 58 (q ∷ qs) ≡ q ++ after qs
unfolding after join_with
join_after q [] = sym (append-nil q)
join_after q (p ∷ ps) = refl

sign_no_name : (b : Bool) → name_byte (sign b) ≡ false
unfolding sign name_byte
sign_no_name true = refl
sign_no_name false = refl

sign_byte_lem : (b : Bool) → T (sign_byte (sign b))
unfolding sign sign_byte
sign_byte_lem true = tt
sign_byte_lem false = tt

ends_of : (x : List ℕ) (a : ℕ) (name : List ℕ) (s : ℕ) (qs : List (List ℕ)) → drop a x ≡ name ++ s ∷ after qs → a ≤ length x → ends_at x (suc (a + length name)) ≡ true
unfolding ends_at after
ends_of x a name s [] e h =
    let l = ap length e ∙ length-append name (s ∷ []) in
    rw (le-ltb (suc (a + length name)) (length x) (omega (arith, length-drop a x)))
ends_of x a name s (p ∷ ps) e h =
    let l = ap length e ∙ length-append name (s ∷ 58 ∷ join_with 58 (p ∷ ps)) in
    let n : a + (length name + 1) ≡ suc (a + length name) = omega arith in
    let g : get_or x (a + (length name + 1)) 0 ≡ 58 =
    sym (get_or-drop a x (length name + 1) 0) ∙ ap (λ d. get_or d (length name + 1) 0) e ∙ get_or-append-add name (s ∷ 58 ∷ join_with 58 (p ∷ ps)) 1 0 in
    rw (lt-ltb (suc (a + length name)) (length x) (omega (arith, length-drop a x)), sym n, g)

module _ (x : List ℕ) (a r : ℕ) (h : Run name_byte x a r) where
  first_good : (q : List ℕ) (qs : List (List ℕ)) → split_on 58 (drop a x) ≡ q ∷ qs → T (piece_ok q) → Piece x a r
  unfolding piece_ok piece named
  first_good q qs e t =
      let sg = and_l (signed q) (named (feature q)) t in
      let nm = and_r (signed q) (named (feature q)) t in
      let name = (feature q).name in
      let s = sign (feature q).on in
      let some = and_l (not (empty name)) (every name_byte name) nm in
      let bytes = and_r (not (empty name)) (every name_byte name) nm in
      let y : drop a x ≡ name ++ s ∷ after qs =
      sym (join_split 58 (drop a x)) ∙ ap (join_with 58) e ∙ join_after q qs ∙ ap (λ l. l ++ after qs) (sym (piece-feature q sg)) ∙ append_assoc name (s ∷ []) (after qs) in
      let n : r ≡ a + length name = run_length name_byte x a r h ∙ ap (λ d. a + run_len name_byte d) y ∙ ap (λ k. a + k) (run_len_at name_byte name s (after qs) bytes (sign_no_name (feature q).on)) in
      let g : get_or x (a + length name) 0 ≡ s = sym (get_or-drop a x (length name) 0) ∙ ap (λ d. get_or d (length name) 0) y ∙ get_or_at name s (after qs) 0 (length name) refl in
      let l = ap length y ∙ length-append name (s ∷ after qs) in
      let k : 0 < length name = some_length name some in
      let al : a ≤ length x = omega (arith, h.low, h.high) in
      record {
        some = omega arith;
        inside = omega (arith, length-drop a x);
        bytes = h.passed;
        sgn = rw (n, g) (sign_byte_lem (feature q).on);
        ends = rw n (ends_of x a name s qs y al);
      }
    where
      some_length : (l : List ℕ) → T (not (empty l)) → 0 < length l
      some_length [] z = absurd (some_none z)
      some_length (b ∷ l) z = omega arith

  pub piece-good : T (every piece_ok (split_on 58 (drop a x))) → Piece x a r
  unfolding every
  piece-good t =
      let (q, qs, e) = split_some 58 (drop a x) in
      first_good q qs e (and_l (piece_ok q) (every piece_ok qs) (rw e at t))

-- ---- a piece that was found

name_not_colon : (b : ℕ) → T (name_byte b) → T (not_colon b)
unfolding name_byte other_than
name_not_colon b t = of_true (not (eqb b 58)) (ap not (is_false (eqb b 58) λ e. subst (λ y. T (name_byte y)) (eqb→eq b 58 e) t))

sign-not_colon : (b : ℕ) → T (sign_byte b) → T (not_colon b)
unfolding sign_byte other_than
sign-not_colon b t = of_true (not (eqb b 58)) (ap not (is_false (eqb b 58) λ e. subst (λ y. T (sign_byte y)) (eqb→eq b 58 e) t))

module _ (x : List ℕ) (a r : ℕ) (h : Piece x a r) where
  pub piece_is : part x a (suc r) ≡ part x a r ++ get_or x r 0 ∷ []
  piece_is =
      let l = h.some in
      ap (λ k. part x a k) (sym (add-one r)) ∙ part_more x 0 a r (omega arith) h.inside

  length_is : length (part x a r) ≡ length (part x a (suc r)) - 1
  length_is =
      let l = h.some in
      let k = h.inside in
      omega (arith, part_length x a r (omega arith) (omega arith), part_length x a (suc r) (omega arith) (omega arith))

  pub name_is : (feature (part x a (suc r))).name ≡ part x a r
  unfolding feature
  name_is = ap (λ p. take (length (part x a (suc r)) - 1) p) piece_is ∙ take_at (part x a r) (get_or x r 0 ∷ []) (length (part x a (suc r)) - 1) length_is

  last_is : get_or (part x a (suc r)) (length (part x a (suc r)) - 1) 0 ≡ get_or x r 0
  last_is = ap (λ p. get_or p (length (part x a (suc r)) - 1) 0) piece_is ∙ get_or_at (part x a r) (get_or x r 0) [] 0 (length (part x a (suc r)) - 1) length_is

  pub piece_ok_lem : T (piece_ok (part x a (suc r)))
  unfolding piece_ok signed named sign_byte
  piece_ok_lem =
      let l = h.some in
      let k = h.inside in
      let s : T (signed (part x a (suc r))) = rw last_is h.sgn in
      let e : T (not (empty (feature (part x a (suc r))).name)) = rw name_is (some_of (part x a r) (omega (arith, part_length x a r (omega arith) (omega arith)))) in
      let b : T (every name_byte (feature (part x a (suc r))).name) = rw name_is h.bytes in
      and_t (signed (part x a (suc r))) (named (feature (part x a (suc r)))) s (and_t (not (empty (feature (part x a (suc r))).name)) (every name_byte (feature (part x a (suc r))).name) e b)

  whole_bytes : T (every not_colon (part x a (suc r)))
  unfolding every
  whole_bytes =
      rw piece_is (every_append not_colon (part x a r) (get_or x r 0 ∷ []) (every_imp name_byte not_colon name_not_colon (part x a r) h.bytes)
      (and_t (not_colon (get_or x r 0)) true (sign-not_colon (get_or x r 0) h.sgn) tt))

  pub piece_split : split_on 58 (drop a x) ≡ part x a (suc r) ∷ pieces_at x (suc r)
  unfolding pieces_at
  piece_split =
      let l = h.some in
      let d = part-drop x a (suc r) (omega arith) in
      elim (cases (ltb (suc r) (length x))) [
        | inl e ↦
            let k = ltb-true (suc r) (length x) e in
            let c : get_or x (suc r) 0 ≡ 58 = colon_at k in
            rw e (ap (split_on 58) (d ∙ ap (λ z. part x a (suc r) ++ z) (drop-cons x (suc r) 0 k ∙ ap (λ b. b ∷ drop (suc (suc r)) x) c))
            ∙ split_skip 58 not_colon no_colon (part x a (suc r)) (drop (suc (suc r)) x) whole_bytes)
        | inr e ↦
            let k = ltb-false (suc r) (length x) e in
            rw e (ap (split_on 58) (d ∙ ap (λ z. part x a (suc r) ++ z) (drop_of_length-le x k) ∙ append-nil (part x a (suc r))) ∙ split_last 58 not_colon no_colon (part x a (suc r)) whole_bytes)
      ]
    where
      colon_at : suc r < length x → get_or x (suc r) 0 ≡ 58
      colon_at k = colon_there x (suc r) k h.ends

-- a sign stands inside
pub sign_inside : (x : List ℕ) (r : ℕ) → T (sign_byte (get_or x r 0)) → r < length x
unfolding sign_byte
sign_inside x r t = elim (or_t (eqb (get_or x r 0) 43) (eqb (get_or x r 0) 45) t) [
  | inl u ↦ byte_inside x r 42 (eqb→eq (get_or x r 0) 43 u)
  | inr u ↦ byte_inside x r 44 (eqb→eq (get_or x r 0) 45 u)
]
