-- Arrays of a fixed length. Definitions only.
use Rattle.std.specs.Prelude.{ℕ, ◌-◌, List, ◌++◌, length, replicate}

-- the list in the first places of an array of n, and d in the others
unfoldable pub slots : {A : Type 0} → ℕ → A → List A → List A
slots n d l = l ++ replicate (n - length l) d
