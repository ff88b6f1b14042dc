-- The spans of a text against the features that it means, and the rules as the code checks them. Assumes nothing.
use Rattle.std.proofs.Common.{Some}
use Rattle.canonical_form.specs.Made.{form_of}
use Rattle.canonical_form.proofs.MadeLaws.{form_some}
use Rattle.entry_id.proofs.CanonicalLaws.{head_canon, head_after, head_kind}
use Rattle.std.proofs.Common.{◌≡◌, ℕ, suc, ◌+◌, ◌<◌, ◌≤◌, Bool, true, false, cond, not, ◌&&◌, ◌||◌, T, ltb, leb, List, [], ◌∷◌, ◌++◌, map, length, take, drop, replicate, sym, refl, ap, ◌∙◌, subst, ap₂, inl, inr, append_assoc, append-nil, arith, le→leb, ltb→lt, leb→le, length-append, length-drop, drop_of_length-le, length-take-le, drop-cons, take_at, ltb-false, ltb-true}
use lib.ListN.{length-map, length-replicate}
use Rattle.wire.proofs.SortLaws.{sort_every, sort_length}
use Rattle.wire.specs.Lists.{any, every}
use Rattle.wire.specs.Order.{insert_by, rising_by, sort_by, distinct_by}
use Rattle.entry_id.specs.Text.{split_on, join_with}
use Rattle.wire.specs.Bytes.{same, empty, before}
use Rattle.wire.proofs.Bools.{and_l, and_r, and_t, or_t, or_l, or_r, is_true, is_false, of_true, cond_ind, cases}
use Rattle.entry_id.proofs.TextLaws.{split_some, join_split}
use Rattle.entry_id.specs.Meaning.{by_name, Feature, fields_of, pieces_of, feature, meaning_of, meaning, piece, six_fields, canonical_of, field_byte, processor_shaped, kinds, signed, named, shaped, proper, valid, canon}
use Rattle.entry_id.proofs.ReadBack.{canon_is, canon-refused, canon-size}
use Rattle.entry_id.proofs.CompareLaws.{piece-feature, valid-signed}
use Rattle.entry_id.specs.Scan.{part, pieces_at}
use Rattle.canonical_form.specs.Heads.{HeadAt, Kinded}
use Rattle.canonical_form.specs.declared.head.Head.{Head}
use Rattle.canonical_form.specs.declared.features.Span.{Span}
use Rattle.canonical_form.specs.declared.plan.Plan.{Plan}
use Rattle.canonical_form.specs.Spans.{piece_ok, good, piece_at, name_of, chunk_of, chunks, Pieces, head_text, PlanAt}
use Rattle.entry_id.specs.Canonical.{in_room, canonical_in, kind_part, after_kind, key_of, head_key}
use Rattle.entry_id.proofs.RunLaws.{part_cons, part_length, part_split, part_rest, pieces_here, pieces_none}
use Rattle.wire.specs.Bytes.{overwrite}
use Rattle.wire.proofs.OverwriteLaws.{overwrite_in, overwrite_then}
use Rattle.canonical_form.proofs.PieceLaws.{piece_ok_lem, name_is, colon_there}
use Rattle.canonical_form.proofs.SpanLaws.{Good, good-parts}
use Rattle.canonical_form.proofs.HeadLaws.{not_t, valid-parts}
use Rattle.canonical_form.proofs.OrderLaws.{distinct_is}

-- ---- one span

unfoldable feat_of : List ℕ → Span → Feature
feat_of x s = feature (piece_at x s)

module _ (x : List ℕ) (s : Span) (t : T (good x s)) where
  g : Good x s
  g = good-parts x s t

  ok : T (piece_ok (piece_at x s))
  unfolding piece_at
  ok = piece_ok_lem x (suc s.at) s.sign g.piece

  name_of_lem : name_of x s ≡ (feat_of x s).name
  unfolding name_of feat_of piece_at
  name_of_lem =
      sym (name_is x (suc s.at) s.sign g.piece)

  signed_of : T (signed (piece_at x s))
  unfolding piece_ok
  signed_of = and_l (signed (piece_at x s)) (named (feature (piece_at x s))) ok

  named_of : T (named (feat_of x s))
  unfolding piece_ok feat_of
  named_of = and_r (signed (piece_at x s)) (named (feature (piece_at x s))) ok

  piece_of : piece (feat_of x s) ≡ piece_at x s
  unfolding feat_of
  piece_of = piece-feature (piece_at x s) signed_of

  chunk_of_lem : chunk_of x s ≡ 58 ∷ piece (feat_of x s)
  unfolding chunk_of piece_at
  chunk_of_lem =
      let l = g.piece.some in
      let i = g.piece.inside in
      part_cons x s.at (suc s.sign) 58 g.colon (omega arith) (omega arith) ∙ ap (λ p. 58 ∷ p) (sym piece_of)

-- ---- order

module _ (x : List ℕ) where
  map_insert : (f : Span) (l : List Span) → T (good x f) → T (every (good x) l) → insert_by by_name (feat_of x f) (map (feat_of x) l) ≡ map (feat_of x) (insert_by (name_of x) f l)
  unfolding insert_by every
  map_insert f [] s t = refl
  map_insert f (h ∷ l) s t =
      let a = name_of_lem x f s in
      let b = name_of_lem x h (and_l (good x h) (every (good x) l) t) in
      let q = ap (λ u. before u (feat_of x h).name) (sym a) ∙ ap (λ u. before (name_of x f) u) (sym b) in
      elim (cases (before (name_of x f) (name_of x h))) [
        | inl e ↦ rw (q ∙ e, e)
        | inr e ↦ rw (q ∙ e, e) (ap (λ r. feat_of x h ∷ r) (map_insert f l s (and_r (good x h) (every (good x) l) t)))
      ]

  map_sort : (l : List Span) → T (every (good x) l) → sort_by by_name (map (feat_of x) l) ≡ map (feat_of x) (sort_by (name_of x) l)
  unfolding sort_by every
  map_sort [] t = refl
  map_sort (f ∷ l) t =
      let s = and_l (good x f) (every (good x) l) t in
      let r = and_r (good x f) (every (good x) l) t in
      rw (map_sort l r) (map_insert f (sort_by (name_of x) l) s (rw (sort_every (name_of x) (good x) l) r))

  rising-map : (l : List Span) → T (every (good x) l) → rising_by by_name (map (feat_of x) l) ≡ rising_by (name_of x) l
  unfolding rising_by every
  rising-map [] t = refl
  rising-map (f ∷ []) t = refl
  rising-map (f ∷ h ∷ l) t =
      let s = and_l (good x f) (every (good x) (h ∷ l)) t in
      let r = and_r (good x f) (every (good x) (h ∷ l)) t in
      let a = name_of_lem x f s in
      let b = name_of_lem x h (and_l (good x h) (every (good x) l) r) in
      let q = ap (λ u. before u (feat_of x h).name) (sym a) ∙ ap (λ u. before (name_of x f) u) (sym b) in
      ap (λ c. c && rising_by by_name (map (feat_of x) (h ∷ l))) q ∙ ap (λ c. before (name_of x f) (name_of x h) && c) (rising-map (h ∷ l) r)

  join_chunks : (h : List ℕ) (l : List Span) → T (every (good x) l) → join_with 58 (h ∷ map piece (map (feat_of x) l)) ≡ h ++ chunks x l
  unfolding join_with chunks every
  join_chunks h [] t = sym (append-nil h)
  join_chunks h (s ∷ l) t =
      let a = and_l (good x s) (every (good x) l) t in
      let r = and_r (good x s) (every (good x) l) t in
      ap (λ j. h ++ 58 ∷ j) (join_chunks (piece (feat_of x s)) l r) ∙ ap (λ c. h ++ (c ++ chunks x l)) (sym (chunk_of_lem x s a))

  all_named : (l : List Span) → T (every (good x) l) → T (every named (map (feat_of x) l))
  unfolding every
  all_named [] t = tt
  all_named (s ∷ l) t =
      and_t (named (feat_of x s)) (every named (map (feat_of x) l)) (named_of x s (and_l (good x s) (every (good x) l) t)) (all_named l (and_r (good x s) (every (good x) l) t))

  all_signed : (l : List Span) → T (every (good x) l) → T (every signed (map (piece_at x) l))
  unfolding every
  all_signed [] t = tt
  all_signed (s ∷ l) t =
      and_t (signed (piece_at x s)) (every signed (map (piece_at x) l)) (signed_of x s (and_l (good x s) (every (good x) l) t)) (all_signed l (and_r (good x s) (every (good x) l) t))

  features_of : (l : List Span) → map feature (map (piece_at x) l) ≡ map (feat_of x) l
  unfolding feat_of
  features_of [] = refl
  features_of (s ∷ l) = ap (λ r. feat_of x s ∷ r) (features_of l)

not-empty : {A : Type 0} (y : A) (l : List A) → T (empty (y ∷ l)) → ⊥
unfolding empty
not-empty y l e = e

none-empty : {A : Type 0} (l : List A) → length l ≡ 0 → T (empty l)
unfolding empty
none-empty [] e = tt
none-empty (y ∷ l) e = absurd (omega arith)

not_both : (b : Bool) → T b → T (not b) → ⊥
not_both true s t = t
not_both false s t = s

not-not : (b : Bool) → not b ≡ false → T b
not-not true e = tt
not-not false e = subst T e tt

-- a text of so many fields is not empty
some_text : (x : List ℕ) → 4 ≤ length (fields_of x) → 1 ≤ length x
unfolding fields_of split_on
some_text [] h = absurd (omega arith)
some_text (y ∷ x) h = omega arith

-- ---- what `valid` asks

module _ (x : List ℕ) (v : T (valid x)) where
  shaped_is : T (shaped x)
  unfolding valid
  shaped_is = and_l (shaped x) (proper (meaning x)) v

  valid-short : length x ≤ 256
  unfolding shaped
  valid-short = let s = shaped_is in let a : T (leb (length x) 256) = search (and_l, and_r) in leb→le (length x) 256 a

  valid-named : T (every named (map feature (pieces_of x)))
  unfolding meaning meaning_of
  valid-named = subst T (sort_every by_name named (map feature (pieces_of x))) (valid-parts x v).all_named

  valid_few : length (pieces_of x) ≤ 8
  unfolding meaning meaning_of
  valid_few =
      let a = leb→le (length (sort_by by_name (map feature (pieces_of x)))) 8 (valid-parts x v).few in
      omega (arith, sort_length by_name (map feature (pieces_of x)), length-map (pieces_of x) feature)

  pieces_ok : (ps : List (List ℕ)) → T (every signed ps) → T (every named (map feature ps)) → T (every piece_ok ps)
  unfolding every piece_ok
  pieces_ok [] s t = tt
  pieces_ok (p ∷ ps) s t =
      and_t (signed p && named (feature p)) (every piece_ok ps)
      (and_t (signed p) (named (feature p)) (and_l (signed p) (every signed ps) s) (and_l (named (feature p)) (every named (map feature ps)) t))
      (pieces_ok ps (and_r (signed p) (every signed ps) s) (and_r (named (feature p)) (every named (map feature ps)) t))

  valid_pieces : T (every piece_ok (pieces_of x))
  valid_pieces = pieces_ok (pieces_of x) (valid-signed x v) valid-named

  valid-length : length (canonical_of (meaning x)) ≤ 256
  valid-length = leb→le (length (canonical_of (meaning x))) 256 (valid-parts x v).fits

head_length : (x : List ℕ) (at dashes stop : ℕ) → at ≤ stop → stop ≤ length x → length (head_text x at dashes stop) ≡ stop + dashes
unfolding head_text
head_length x at dashes stop h k =
    omega (arith, length-append (take at x ++ replicate dashes 45) (part x at stop), length-append (take at x) (replicate dashes 45), length-replicate {A = ℕ} dashes 45, length-take-le at x (omega arith), part_length x at stop h k)

-- the text up to a later place
pub head_more : (x : List ℕ) (at dashes stop upto : ℕ) → at ≤ stop → stop ≤ upto → head_text x at dashes upto ≡ head_text x at dashes stop ++ part x stop upto
unfolding head_text
head_more x at dashes stop upto h k =
    ap (λ l. take at x ++ replicate dashes 45 ++ l) (part_split x at stop upto h k) ∙ sym (append_assoc (take at x ++ replicate dashes 45) (part x at stop) (part x stop upto))

-- ---- the features as they stand in the text

insert_s_length : (x : List ℕ) (f : Span) (l : List Span) → length (chunks x (insert_by (name_of x) f l)) ≡ length (chunk_of x f) + length (chunks x l)
unfolding insert_by chunks
insert_s_length x f [] = length-append (chunk_of x f) []
insert_s_length x f (h ∷ l) =
    cond_ind (λ r. length (chunks x r) ≡ length (chunk_of x f) + length (chunk_of x h ++ chunks x l)) (before (name_of x f) (name_of x h)) (f ∷ h ∷ l) (h ∷ insert_by (name_of x) f l)
    (length-append (chunk_of x f) (chunk_of x h ++ chunks x l))
    (omega (arith, length-append (chunk_of x h) (chunks x (insert_by (name_of x) f l)), insert_s_length x f l, length-append (chunk_of x h) (chunks x l)))

sort_s_length : (x : List ℕ) (l : List Span) → length (chunks x (sort_by (name_of x) l)) ≡ length (chunks x l)
unfolding sort_by chunks
sort_s_length x [] = refl
sort_s_length x (f ∷ l) = omega (arith, insert_s_length x f (sort_by (name_of x) l), sort_s_length x l, length-append (chunk_of x f) (chunks x l))

pieces_of_lem : (x : List ℕ) (l : List Span) → T (every (good x) l) → map piece (map (feat_of x) l) ≡ map (piece_at x) l
unfolding every
pieces_of_lem x [] t = refl
pieces_of_lem x (s ∷ l) t =
    ap (λ p. p ∷ map piece (map (feat_of x) l)) (piece_of x s (and_l (good x s) (every (good x) l) t))
    ∙ ap (λ r. piece_at x s ∷ r) (pieces_of_lem x l (and_r (good x s) (every (good x) l) t))

chunks_tail : (x : List ℕ) (l : List Span) → T (every (good x) l) → (q : List ℕ) (qs : List (List ℕ)) → map (piece_at x) l ≡ q ∷ qs → chunks x l ≡ 58 ∷ join_with 58 (map (piece_at x) l)
unfolding chunks every
chunks_tail x [] t q qs e = let z : ◌≡◌ {A = ℕ} 0 1 = cc in absurd (omega arith)
chunks_tail x (s ∷ l) t q qs e =
    let a = and_l (good x s) (every (good x) l) t in
    let r = and_r (good x s) (every (good x) l) t in
    ap (λ c. c ++ chunks x l) (chunk_of_lem x s a) ∙ ap (λ j. 58 ∷ j) (sym (join_chunks x (piece (feat_of x s)) l r) ∙ ap (join_with 58) (pieces_of_lem x (s ∷ l) t))

none_of : (x : List ℕ) (l : List Span) → map (piece_at x) l ≡ [] → chunks x l ≡ []
unfolding chunks
none_of x [] e = refl
none_of x (s ∷ l) e = let z : ◌≡◌ {A = ℕ} 0 1 = cc in absurd (omega arith)

pub long-refused : (x : List ℕ) → 256 < length x → valid x ≡ false
long-refused x h = is_false (valid x) (λ v. let a = valid-short x v in omega arith)

module _ (x : List ℕ) (hd : Head) (h : HeadAt x hd) where
  pub pieces_refused : (every piece_ok (pieces_at x hd.stop) && leb (length (pieces_at x hd.stop)) 8) ≡ false → valid x ≡ false
  pieces_refused e = is_false (valid x) (λ v.
      let a : T (every piece_ok (pieces_at x hd.stop)) = rw h.pieces_are at (valid_pieces x v) in
      let b : T (leb (length (pieces_at x hd.stop)) 8) = le→leb (length (pieces_at x hd.stop)) 8 (omega (arith, valid_few x v, ap length h.pieces_are)) in
      not_t e (and_t (every piece_ok (pieces_at x hd.stop)) (leb (length (pieces_at x hd.stop)) 8) a b))

  head_is : join_with 45 (six_fields (meaning x)) ≡ head_text x hd.at hd.dashes hd.stop
  unfolding head_text
  head_is = h.form

  module _ (n : ℕ) (t : List Span) (pc : Pieces x hd.stop n t) where
    pieces_spans : pieces_of x ≡ map (piece_at x) (take n t)
    pieces_spans = h.pieces_are ∙ pc.are

    features-spans : (meaning x).features ≡ map (feat_of x) (sort_by (name_of x) (take n t))
    unfolding meaning meaning_of
    features-spans = ap (λ ps. sort_by by_name (map feature ps)) pieces_spans ∙ ap (sort_by by_name) (features_of x (take n t)) ∙ map_sort x (take n t) pc.all_good

    pub sorted_good : T (every (good x) (sort_by (name_of x) (take n t)))
    sorted_good = rw (sort_every (name_of x) (good x) (take n t)) pc.all_good

    pub text_is : canonical_of (meaning x) ≡ head_text x hd.at hd.dashes hd.stop ++ chunks x (sort_by (name_of x) (take n t))
    unfolding canonical_of head_text
    text_is =
        ap (λ fs. join_with 58 (join_with 45 (six_fields (meaning x)) ∷ map piece fs)) features-spans
        ∙ join_chunks x (join_with 45 (six_fields (meaning x))) (sort_by (name_of x) (take n t)) sorted_good
        ∙ ap (λ l. l ++ chunks x (sort_by (name_of x) (take n t))) h.form

    -- the features, in the order of the text, are what follows the head
    chunks-text : chunks x (take n t) ≡ drop hd.stop x
    chunks-text = elim (cases (ltb hd.stop (length x))) [
      | inl e ↦
          let k = ltb-true hd.stop (length x) e in
          let (q, qs, o) = split_some 58 (drop (suc hd.stop) x) in
          let m : split_on 58 (drop (suc hd.stop) x) ≡ map (piece_at x) (take n t) = sym (pieces_here x hd.stop k) ∙ pc.are in
          chunks_tail x (take n t) pc.all_good q qs (sym m ∙ o) ∙ ap (λ j. 58 ∷ j) (ap (join_with 58) (sym m) ∙ join_split 58 (drop (suc hd.stop) x))
          ∙ sym (drop-cons x hd.stop 0 k ∙ ap (λ b. b ∷ drop (suc hd.stop) x) (colon_there x hd.stop k h.ends))
      | inr e ↦
          let k = ltb-false hd.stop (length x) e in
          none_of x (take n t) (sym pc.are ∙ pieces_none x hd.stop k) ∙ sym (drop_of_length-le x k)
    ]

    write-length : length (canonical_of (meaning x)) ≡ length x + hd.dashes
    write-length =
        let w = h.within in
        omega (arith, ap length text_is ∙ length-append (head_text x hd.at hd.dashes hd.stop) (chunks x (sort_by (name_of x) (take n t))), head_length x hd.at hd.dashes hd.stop h.place h.within, sort_s_length x (take n t), ap length chunks-text ∙ length-drop hd.stop x)

    pub length-refused : 256 < length x + hd.dashes → valid x ≡ false
    length-refused k = is_false (valid x) (λ v. let a = valid-length x v in let b = write-length in omega arith)

    count_is : length (meaning x).features ≡ n
    unfolding meaning meaning_of
    count_is =
        omega (arith, sort_length by_name (map feature (pieces_of x)), length-map (pieces_of x) feature, ap length pieces_spans, length-map (take n t) (piece_at x), length-take-le n t (omega (arith, pc.few, pc.size)))

    rising_is : rising_by by_name (meaning x).features ≡ rising_by (name_of x) (sort_by (name_of x) (take n t))
    rising_is = ap (rising_by by_name) features-spans ∙ rising-map x (sort_by (name_of x) (take n t)) sorted_good

    apart_is : rising_by by_name (meaning x).features ≡ distinct_by (name_of x) (take n t)
    apart_is = rising_is ∙ sym (distinct_is (name_of x) (take n t))

    pub order_refused : distinct_by (name_of x) (take n t) ≡ false → valid x ≡ false
    order_refused e = is_false (valid x) (λ v. not_t (apart_is ∙ e) (valid-parts x v).in_order)

    -- where nothing moved, the form is the text with the hd.dashes put in
    pub text_tidy : (u : List Span) → u ≡ sort_by (name_of x) (take n t) → u ≡ take n t → canonical_of (meaning x) ≡ head_text x hd.at hd.dashes (length x) ++ chunks x []
    unfolding chunks
    text_tidy u e k =
        text_is ∙ ap (λ l. head_text x hd.at hd.dashes hd.stop ++ chunks x l) (sym e ∙ k) ∙ ap (λ l. head_text x hd.at hd.dashes hd.stop ++ l) (chunks-text ∙ sym (part_rest x hd.stop))
        ∙ sym (head_more x hd.at hd.dashes hd.stop (length x) h.place h.within) ∙ sym (append-nil (head_text x hd.at hd.dashes (length x)))

    empty-length : {A : Type 0} (l : List A) → T (empty l) → length l ≡ 0
    empty-length [] e = refl
    empty-length (y ∷ l) e = absurd (not-empty y l e)

    pub proc_refused : (ltb 0 n && not hd.processor) ≡ true → valid x ≡ false
    proc_refused e = is_false (valid x) (λ v.
        let b = of_true (ltb 0 n && not hd.processor) e in
        let k = ltb→lt 0 n (and_l (ltb 0 n) (not hd.processor) b) in
        let q : T (not (not (empty (meaning x).processor))) = subst (λ p. T (not p)) h.proc_is (and_r (ltb 0 n) (not hd.processor) b) in
        elim (or_t (not (empty (meaning x).processor)) (empty (meaning x).features) (valid-parts x v).with_proc) [
          | inl u ↦ not_both (not (empty (meaning x).processor)) u q
          | inr u ↦ omega (arith, empty-length (meaning x).features u, count_is)
        ])

    module _ (short : length x + hd.dashes ≤ 256) (pr : (ltb 0 n && not hd.processor) ≡ false) (ris : distinct_by (name_of x) (take n t) ≡ true) where
      shaped_ok : T (shaped x)
      unfolding shaped
      shaped_ok =
          let a : T (leb 1 (length x)) = le→leb 1 (length x) (some_text x h.least) in
          let b : T (leb (length x) 256) = le→leb (length x) 256 (omega arith) in
          let d : T (leb 4 (length (fields_of x))) = le→leb 4 (length (fields_of x)) h.least in
          let s : T (every signed (pieces_of x)) = rw pieces_spans (all_signed x (take n t) pc.all_good) in
          search and_t depth 8

      with_proc_ok : T (not (empty (meaning x).processor) || empty (meaning x).features)
      with_proc_ok = elim (cases (ltb 0 n)) [
        | inl e ↦
            let q : not hd.processor ≡ false = rw e at pr in
            or_l (not (empty (meaning x).processor)) (empty (meaning x).features) (subst T h.proc_is (not-not hd.processor q))
        | inr e ↦ or_r (not (empty (meaning x).processor)) (empty (meaning x).features) (none-empty (meaning x).features (omega (arith, count_is, ltb-false 0 n e)))
      ]

      long_is : length (canonical_of (meaning x)) ≡ length x + hd.dashes
      long_is = write-length

      proper_ok : T (proper (meaning x))
      unfolding proper
      proper_ok =
          let m = meaning x in
          let a : T (any (same m.kind) kinds) = h.kind_in in
          let b : T (not (empty m.arch)) = h.arch_some in
          let c : T (not (empty m.vendor)) = h.vendor_some in
          let d : T (not (empty m.system)) = h.system_some in
          let e : T (every (every field_byte) (m.arch ∷ m.vendor ∷ m.system ∷ m.environment ∷ [])) = h.field_bytes_lem in
          let o : T (processor_shaped m.processor) = h.processor_shaped_lem in
          let f : T (every named m.features) = rw features-spans (all_named x (sort_by (name_of x) (take n t)) sorted_good) in
          let i : T (rising_by by_name m.features) = of_true (rising_by by_name m.features) (apart_is ∙ ris) in
          let j : T (leb (length m.features) 8) = le→leb (length m.features) 8 (omega (arith, count_is, pc.few)) in
          let k : T (not (empty m.processor) || empty m.features) = with_proc_ok in
          let l : T (leb (length (canonical_of m)) 256) = le→leb (length (canonical_of m)) 256 (omega (arith, long_is)) in
          search and_t depth 14

      plan_valid : T (valid x)
      unfolding valid
      plan_valid = and_t (shaped x) (proper (meaning x)) shaped_ok proper_ok

      pub plan_yes : (upto m : ℕ) (u : List Span) → hd.stop ≤ upto → upto ≤ length x → m ≤ 8 → T (every (good x) (take m u)) → canonical_of (meaning x) ≡ head_text x hd.at hd.dashes upto ++ chunks x (take m u)
          → PlanAt x (record { head = hd; upto = upto; count = m }) u
      plan_yes upto m u b w f z e = record { right = plan_valid; place = h.place; below = b; within = w; few_dashes = h.few; few = f; all_good = z; head = head_is; text = e; long = long_is }

-- ---- writing

pub canon-none : (n : ℕ) (x : List ℕ) → valid x ≡ false → canonical_in n x ≡ []
unfolding canonical_in in_room
canon-none n x e = ap (λ (l : List ℕ). cond (leb (length l) n) l []) (canon-refused x e) ∙ cond_same (leb 0 n)
  where
    cond_same : (b : Bool) → cond {A = List ℕ} b [] [] ≡ []
    cond_same true = refl
    cond_same false = refl

module _ (x : List ℕ) (q : Plan) (t : List Span) (p : PlanAt x q t) where
  canon-write : canon x ≡ canonical_of (meaning x)
  canon-write = canon_is x p.right

  pub canon_small : (k : ℕ) → k < length x + q.head.dashes → canonical_in k x ≡ []
  unfolding canonical_in in_room
  canon_small k h = rw (is_false (leb (length (canon x)) k) (λ u. let a = leb→le (length (canon x)) k u in omega (arith, ap length canon-write, p.long)))

  plan_head : length (head_text x q.head.at q.head.dashes q.upto) ≡ q.upto + q.head.dashes
  plan_head = head_length x q.head.at q.head.dashes q.upto (omega (arith, p.place, p.below)) p.within

  pub plan_length : q.upto + q.head.dashes + length (chunks x (take q.count t)) ≡ length x + q.head.dashes
  plan_length = omega (arith, ap length p.text ∙ length-append (head_text x q.head.at q.head.dashes q.upto) (chunks x (take q.count t)), plan_head, p.long)

  module _ (o : List ℕ) (room : length x + q.head.dashes ≤ length o) where
    canon-fits : canonical_in (length o) x ≡ head_text x q.head.at q.head.dashes q.upto ++ chunks x (take q.count t)
    unfolding canonical_in in_room
    canon-fits =
        let k : T (leb (length (canon x)) (length o)) = le→leb (length (canon x)) (length o) (omega (arith, ap length canon-write, p.long)) in
        rw (is_true (leb (length (canon x)) (length o)) k) (canon-write ∙ p.text)

    canon-length_is : length (canonical_in (length o) x) ≡ length x + q.head.dashes
    canon-length_is = ap length (canon-fits ∙ sym p.text) ∙ p.long

    -- the text written: it starts with the form's head
    pub head_written : (u : List ℕ) → u ≡ overwrite o 0 (head_text x q.head.at q.head.dashes q.upto) → take (q.head.stop + q.head.dashes) u ≡ head_text x q.head.at q.head.dashes q.head.stop
    head_written u e =
        let hd = head_text x q.head.at q.head.dashes q.upto in
        let hs = head_text x q.head.at q.head.dashes q.head.stop in
        let r = drop (0 + length hd) o in
        ap (take (q.head.stop + q.head.dashes)) (e ∙ overwrite_in o 0 hd (omega (arith, plan_head, plan_length)) ∙ ap (λ l. l ++ r) (head_more x q.head.at q.head.dashes q.head.stop q.upto p.place p.below) ∙ append_assoc hs (part x q.head.stop q.upto) r)
        ∙ take_at hs (part x q.head.stop q.upto ++ r) (q.head.stop + q.head.dashes) (head_length x q.head.at q.head.dashes q.head.stop p.place (omega (arith, p.below, p.within)))

    -- that head, and the key of the form
    pub head_kinded : Kinded (head_text x q.head.at q.head.dashes q.head.stop)
    unfolding six_fields join_with
    head_kinded = record { kind = (meaning x).kind; rest = _; kind_in = (valid-parts x p.right).kind_in; is = sym p.head }

    pub form_is : (key : ℕ) → key ≡ key_of (kind_part (head_text x q.head.at q.head.dashes q.head.stop)) (after_kind (head_text x q.head.at q.head.dashes q.head.stop))
        → Some (record { length = length x + q.head.dashes; key = key }) ≡ form_of (canonical_in (length o) x)
    unfolding head_key
    form_is key f =
        let c : canon x ≡ canonical_in (length o) x = canon-write ∙ p.text ∙ sym canon-fits in
        let h = sym (head_canon x p.right ∙ p.head) in
        let k : key ≡ head_key (canonical_in (length o) x) =
        f ∙ ap₂ key_of (ap kind_part h ∙ head_kind x p.right) (ap after_kind h ∙ head_after x p.right) ∙ ap head_key c in
        form_some (canonical_in (length o) x) (length x + q.head.dashes) key (omega (arith, ap length c, canon-size x p.right)) (sym canon-length_is) k

    -- both parts written
    pub canon-written : (u v : List ℕ) → u ≡ overwrite o 0 (head_text x q.head.at q.head.dashes q.upto) → v ≡ overwrite u (q.upto + q.head.dashes) (chunks x (take q.count t)) → v ≡ canonical_in (length o) x ++ drop (length (canonical_in (length o) x)) o
    canon-written u v e f =
        let hd = head_text x q.head.at q.head.dashes q.upto in
        let ch = chunks x (take q.count t) in
        let w = overwrite_then o 0 (q.upto + q.head.dashes) hd ch (omega (arith, plan_head)) (omega (arith, plan_length)) in
        let l : 0 + length (hd ++ ch) ≡ length x + q.head.dashes = omega (arith, length-append hd ch, plan_head, plan_length) in
        f ∙ ap (λ z. overwrite z (q.upto + q.head.dashes) ch) e ∙ w ∙ overwrite_in o 0 (hd ++ ch) (omega (arith, l)) ∙ ap (λ k. hd ++ ch ++ drop k o) l ∙ ap₂ (λ z k. z ++ drop k o) (sym canon-fits) (sym canon-length_is)
