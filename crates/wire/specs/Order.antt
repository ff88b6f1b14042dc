-- Lists in byte order of a key, "a prefix first". Definitions only.
use Rattle.std.specs.Prelude.{ℕ, Bool, true, not, ◌&&◌, cond, List, [], ◌∷◌}
use Rattle.wire.specs.Bytes.{same, before}
use Rattle.wire.specs.Lists.{any}

module _ {A : Type 0} (key : A → List ℕ) where
  -- x put in its place in a list that is in order
  unfoldable pub insert_by : A → List A → List A
  insert_by x [] = x ∷ []
  insert_by x (y ∷ l) = cond (before (key x) (key y)) (x ∷ y ∷ l) (y ∷ insert_by x l)

  -- the list put in order
  unfoldable pub sort_by : List A → List A
  sort_by [] = []
  sort_by (x ∷ l) = insert_by x (sort_by l)

  -- each key stands before the next
  unfoldable pub rising_by : List A → Bool
  rising_by [] = true
  rising_by (x ∷ []) = true
  rising_by (x ∷ y ∷ l) = before (key x) (key y) && rising_by (y ∷ l)

  -- no two have one key
  unfoldable pub distinct_by : List A → Bool
  distinct_by [] = true
  distinct_by (x ∷ l) = not (any (λ y. same (key x) (key y)) l) && distinct_by l
