-- Texts: cutting at a byte and joining with it. Definitions only.
use Rattle.std.specs.Prelude.{ℕ, Bool, not, cond, List, [], ◌∷◌, ◌++◌, eqb}

-- x in front of the first piece
unfoldable pub on_first : ℕ → List (List ℕ) → List (List ℕ)
on_first x [] = (x ∷ []) ∷ []
on_first x (p ∷ ps) = (x ∷ p) ∷ ps

-- the text cut at every c: one piece more than there are c's
unfoldable pub split_on : ℕ → List ℕ → List (List ℕ)
split_on c [] = [] ∷ []
split_on c (x ∷ s) = let ps = split_on c s in cond (eqb x c) ([] ∷ ps) (on_first x ps)

-- the pieces with a c between each two
unfoldable pub join_with : ℕ → List (List ℕ) → List ℕ
join_with c [] = []
join_with c (p ∷ []) = p
join_with c (p ∷ q ∷ ps) = p ++ c ∷ join_with c (q ∷ ps)

-- any byte but c
unfoldable pub other_than : ℕ → ℕ → Bool
other_than c b = not (eqb b c)

-- any byte but a ':'
abbrev pub not_colon : ℕ → Bool
not_colon = other_than 58
