-- Canonical texts with the same head are the same but for signs exactly when they state the same feature names. Assumes nothing.
use Prim.Native.Nat.{ℕ}
use Prim.Native.Char.{code}
use mathlib.Core.Path.{◌≡◌, refl, sym, ap, ap₂, ◌∙◌, subst}
use mathlib.Core.Logic.{inl, inr}
use mathlib.Core.Bool.{Bool, true, false, not, ◌&&◌}
use mathlib.Core.List.{List, [], ◌∷◌, ◌++◌, map, append_assoc, append-nil}
use lib.Dec.{T, eqb, eqb→eq}
use borrow.Author.Tests.{eq-eqb}
use Rattle.wire.specs.Bytes.{same, empty}
use Rattle.wire.specs.Lists.{agree, every}
use Rattle.wire.proofs.Bools.{or_true, or_false, and_false, and_assoc, and_l, and_r, or_t, is_false, clash}
use Rattle.entry_id.specs.Text.{join_with}
use Rattle.entry_id.specs.Meaning.{Feature, piece, sign, named, name_byte}
use Rattle.entry_id.specs.Compare.{same_names}
use Rattle.entry_id.specs.Canonical.{sign_byte, same_but_sign}

-- ---- bytes

name_no_sign : (x : ℕ) → T (name_byte x) → sign_byte x ≡ false
unfolding name_byte sign_byte
name_no_sign x u = is_false (sign_byte x) (λ t. elim (or_t (eqb x (code "+")) (eqb x (code "-")) t) [
  | inl e ↦ subst (λ y. T (name_byte y)) (eqb→eq x (code "+") e) u
  | inr e ↦ subst (λ y. T (name_byte y)) (eqb→eq x (code "-") e) u
])

sign_is : (b : Bool) → sign_byte (sign b) ≡ true
unfolding sign sign_byte
sign_is true = refl
sign_is false = refl

-- a sign and another byte
apart : (x y : ℕ) → sign_byte x ≡ true → sign_byte y ≡ false → eqb x y ≡ false
apart x y p q = is_false (eqb x y) (λ e. clash (sign_byte x) p (ap sign_byte (eqb→eq x y e) ∙ q))

pub agree_self : (h s t : List ℕ) → agree same_but_sign (h ++ s) (h ++ t) ≡ agree same_but_sign s t
unfolding agree same_but_sign
agree_self [] s t = refl
agree_self (x ∷ h) s t = rw (eq-eqb x x refl) (agree_self h s t)

-- ---- names

names-next : (n m : List ℕ) (x y : ℕ) (s t : List ℕ) → T (every name_byte n) → T (every name_byte m) → sign_byte x ≡ true → sign_byte y ≡ true
    → agree same_but_sign (n ++ x ∷ s) (m ++ y ∷ t) ≡ (same n m && agree same_but_sign s t)
unfolding agree same same_but_sign every
names-next [] [] x y s t u v p q = rw (p, q, or_true (eqb x y))
names-next [] (d ∷ m) x y s t u v p q =
    let e = name_no_sign d (and_l (name_byte d) (every name_byte m) v) in
    rw (apart x d p e, e, and_false (sign_byte x))
names-next (c ∷ n) [] x y s t u v p q =
    let e = name_no_sign c (and_l (name_byte c) (every name_byte n) u) in
    rw (is_false (eqb c y) (λ z. clash (sign_byte y) q (ap sign_byte (sym (eqb→eq c y z)) ∙ e)), e)
names-next (c ∷ n) (d ∷ m) x y s t u v p q =
    rw (name_no_sign c (and_l (name_byte c) (every name_byte n) u), or_false (eqb c d))
    (ap (λ (z : Bool). eqb c d && z) (names-next n m x y s t (and_r (name_byte c) (every name_byte n) u) (and_r (name_byte d) (every name_byte m) v) p q)
    ∙ and_assoc (eqb c d) (same n m) (agree same_but_sign s t))

-- the pieces, each with a ':' before it
tails : List (List ℕ) → List ℕ
tails [] = []
tails (p ∷ ps) = code ":" ∷ (p ++ tails ps)

join_tails : (h : List ℕ) (ps : List (List ℕ)) → join_with (code ":") (h ∷ ps) ≡ h ++ tails ps
unfolding join_with tails
join_tails h [] = sym (append-nil h)
join_tails h (p ∷ ps) = ap (λ l. h ++ code ":" ∷ l) (join_tails p ps)

tails_alike : (fs gs : List Feature) → T (every named fs) → T (every named gs) → agree same_but_sign (tails (map piece fs)) (tails (map piece gs)) ≡ same_names fs gs
unfolding tails agree same_but_sign same_names every piece named
tails_alike [] [] u v = refl
tails_alike [] (g ∷ gs) u v = refl
tails_alike (f ∷ fs) [] u v = refl
tails_alike (f ∷ fs) (g ∷ gs) u v =
    let a = and_r (not (empty f.name)) (every name_byte f.name) (and_l (named f) (every named fs) u) in
    let b = and_r (not (empty g.name)) (every name_byte g.name) (and_l (named g) (every named gs) v) in
    ap₂ (agree same_but_sign) (append_assoc f.name (sign f.on ∷ []) (tails (map piece fs))) (append_assoc g.name (sign g.on ∷ []) (tails (map piece gs)))
    ∙ names-next f.name g.name (sign f.on) (sign g.on) (tails (map piece fs)) (tails (map piece gs)) a b (sign_is f.on) (sign_is g.on)
    ∙ ap (λ (z : Bool). same f.name g.name && z) (tails_alike fs gs (and_r (named f) (every named fs) u) (and_r (named g) (every named gs) v))

-- with the same head
pub alike_names : (h : List ℕ) (fs gs : List Feature) → T (every named fs) → T (every named gs)
    → agree same_but_sign (join_with (code ":") (h ∷ map piece fs)) (join_with (code ":") (h ∷ map piece gs)) ≡ same_names fs gs
alike_names h fs gs u v =
    ap₂ (agree same_but_sign) (join_tails h (map piece fs)) (join_tails h (map piece gs)) ∙ agree_self h (tails (map piece fs)) (tails (map piece gs)) ∙ tails_alike fs gs u v
