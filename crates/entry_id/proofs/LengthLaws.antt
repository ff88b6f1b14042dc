-- An ID of six fields or more, whose processor does not start in the fifth, has a canonical form of its own length. Assumes nothing.
use Prim.Native.Nat.{ℕ, suc, ◌+◌, ◌≤◌, ◌<◌}
use Prim.Native.Char.{code}
use native.Mathlib.Omega.{arith}
use mathlib.Core.Path.{◌≡◌, refl, sym, ap, ◌∙◌}
use mathlib.Core.Bool.{false}
use mathlib.Core.List.{List, [], ◌∷◌, map}
use lib.Dec.{T}
use lib.ListN.{length, get_or, drop, length-append}
use lib.Seq.{drop-cons}
use Rattle.wire.specs.Lists.{every, total}
use Rattle.wire.specs.Order.{sort_by}
use Rattle.wire.proofs.Bools.{and_l, and_r}
use Rattle.wire.proofs.SortLaws.{sort_total}
use Rattle.entry_id.specs.Text.{split_on, join_with}
use Rattle.entry_id.specs.Meaning.{by_name, fields_of, pieces_of, fifth_is_processor, feature, meaning_of, meaning, piece, six_fields, canonical_of, signed}
use Rattle.entry_id.proofs.TextLaws.{split_some, join_split}
use Rattle.entry_id.proofs.CompareLaws.{piece-feature}

-- a piece and the byte before it
spaced : List ℕ → ℕ
spaced p = suc (length p)

join_length : (c : ℕ) (f : List ℕ) (fs : List (List ℕ)) → length (join_with c (f ∷ fs)) ≡ length f + total spaced fs
unfolding join_with total spaced
join_length c f [] = omega arith
join_length c f (g ∷ fs) = omega (arith, length-append f (c ∷ join_with c (g ∷ fs)), join_length c g fs)

total-map : {A B : Type 0} (w : B → ℕ) (f : A → B) (l : List A) → total w (map f l) ≡ total (λ a. w (f a)) l
unfolding total
total-map w f [] = refl
total-map w f (x ∷ l) = ap (λ n. w (f x) + n) (total-map w f l)

pieces_length : (ps : List (List ℕ)) → T (every signed ps) → total (λ p. spaced (piece (feature p))) ps ≡ total spaced ps
unfolding total every
pieces_length [] t = refl
pieces_length (p ∷ ps) t =
    let a = ap spaced (piece-feature p (and_l (signed p) (every signed ps) t)) in
    let b = pieces_length ps (and_r (signed p) (every signed ps) t) in
    omega arith

-- the pieces in order are as long as in the text's order
sorted_length : (ps : List (List ℕ)) → T (every signed ps) → total spaced (map piece (sort_by by_name (map feature ps))) ≡ total spaced ps
sorted_length ps t =
    total-map spaced piece (sort_by by_name (map feature ps))
    ∙ sort_total by_name (λ f. spaced (piece f)) (map feature ps)
    ∙ total-map (λ f. spaced (piece f)) feature ps
    ∙ pieces_length ps t

-- five fields and what follows them
five_fields_lem : (fs : List (List ℕ)) → 5 ≤ length fs → fs ≡ get_or fs 0 [] ∷ get_or fs 1 [] ∷ get_or fs 2 [] ∷ get_or fs 3 [] ∷ get_or fs 4 [] ∷ drop 5 fs
five_fields_lem fs h =
    drop-cons fs 0 [] (omega arith) ∙ ap (λ l. get_or fs 0 [] ∷ l) (drop-cons fs 1 [] (omega arith) ∙ ap (λ l. get_or fs 1 [] ∷ l) (drop-cons fs 2 [] (omega arith)
    ∙ ap (λ l. get_or fs 2 [] ∷ l) (drop-cons fs 3 [] (omega arith) ∙ ap (λ l. get_or fs 3 [] ∷ l) (drop-cons fs 4 [] (omega arith)))))

-- six or more fields: the sixth and what follows it, joined, make one
join_six : (c : ℕ) (fs : List (List ℕ)) → 5 < length fs → join_with c (get_or fs 0 [] ∷ get_or fs 1 [] ∷ get_or fs 2 [] ∷ get_or fs 3 [] ∷ get_or fs 4 [] ∷ join_with c (drop 5 fs) ∷ []) ≡ join_with c fs
unfolding join_with
join_six c fs h =
    let five : List (List ℕ) → List (List ℕ) = λ l. get_or fs 0 [] ∷ get_or fs 1 [] ∷ get_or fs 2 [] ∷ get_or fs 3 [] ∷ get_or fs 4 [] ∷ l in
    let d = drop-cons fs 5 [] h in
    ap (λ l. join_with c (five (join_with c l ∷ []))) d ∙ ap (λ l. join_with c (five l)) (sym d) ∙ ap (join_with c) (sym (five_fields_lem fs (omega arith)))

-- the text is its head and its pieces
text-cut : (x : List ℕ) → join_with (code ":") (join_with (code "-") (fields_of x) ∷ pieces_of x) ≡ x
unfolding fields_of pieces_of
text-cut x =
    let (q, qs, e) = split_some (code ":") x in
    ap (λ h. join_with (code ":") (h ∷ drop 1 (split_on (code ":") x))) (join_split (code "-") (get_or (split_on (code ":") x) 0 []))
    ∙ ap (λ l. join_with (code ":") (get_or l 0 [] ∷ drop 1 l)) e ∙ ap (join_with (code ":")) (sym e) ∙ join_split (code ":") x

pub length_six : (x : List ℕ) → T (every signed (pieces_of x)) → 5 < length (fields_of x) → fifth_is_processor (fields_of x) ≡ false → length (canonical_of (meaning x)) ≡ length x
unfolding canonical_of meaning meaning_of six_fields
length_six x t h f =
    let e : join_with (code "-") (six_fields (meaning x)) ≡ join_with (code "-") (fields_of x) = rw f (join_six (code "-") (fields_of x) h) in
    join_length (code ":") (join_with (code "-") (six_fields (meaning x))) (map piece (meaning x).features)
    ∙ ap (λ n. length (join_with (code "-") (six_fields (meaning x))) + n) (sorted_length (pieces_of x) t)
    ∙ ap (λ l. length l + total spaced (pieces_of x)) e
    ∙ sym (join_length (code ":") (join_with (code "-") (fields_of x)) (pieces_of x)) ∙ ap length (text-cut x)
