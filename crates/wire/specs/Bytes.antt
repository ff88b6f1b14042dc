-- Byte strings as lists: quoted text, equality, byte order, the common start, and a part written over. Definitions only.
use Rattle.std.specs.Prelude.{ℕ, suc, ◌+◌, Bool, true, false, ◌&&◌, ◌||◌, cond, List, [], ◌∷◌, ◌++◌, length, take, drop, eqb, ltb, leb}
use Prim.Native.Char.{code}
use Prim.Native.String.{String}

-- the bytes of a quoted text
abbrev pub bytes : String → List ℕ
bytes String.[] = []
bytes (String.◌∷◌ c s) = code c ∷ bytes s

unfoldable pub empty : {A : Type 0} → List A → Bool
empty [] = true
empty (x ∷ l) = false

-- the same bytes
unfoldable pub same : List ℕ → List ℕ → Bool
same [] [] = true
same [] (y ∷ b) = false
same (x ∷ a) [] = false
same (x ∷ a) (y ∷ b) = eqb x y && same a b

-- a stands before b in byte order, "a prefix first": at the first difference a's byte is the lower, or a ends there and b goes on
unfoldable pub before : List ℕ → List ℕ → Bool
before [] [] = false
before [] (y ∷ b) = true
before (x ∷ a) [] = false
before (x ∷ a) (y ∷ b) = ltb x y || eqb x y && before a b

-- how many bytes two byte strings have in common from their start
unfoldable pub common : List ℕ → List ℕ → ℕ
common [] b = 0
common (x ∷ a) [] = 0
common (x ∷ a) (y ∷ b) = cond (eqb x y) (suc (common a b)) 0

-- `out` with `src` from `at` on, where that lies within `out`; else `out` as it was
unfoldable pub overwrite : List ℕ → ℕ → List ℕ → List ℕ
overwrite out at src = cond (leb (at + length src) (length out)) (take at out ++ src ++ drop (at + length src) out) out
