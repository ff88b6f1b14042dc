-- What the containers ask of the rules of entry IDs. Container definitions and theorems hold for every `IdRules` that is `Lawful`.
use Rattle.std.specs.Prelude.{ℕ, ◌≤◌, ◌≡◌, Bool, true, false, List, length}
use Rattle.wire.specs.Bytes.{empty}

pub record IdRules : Type 0 where
  -- the canonical form of a text; empty where the text breaks the rules
  pub canon : List ℕ → List ℕ
  -- of two entries' canonical forms: the same meaning; the same kind, triple and processor with other feature names
  pub same_meaning : List ℕ → List ℕ → Bool
  pub mixed : List ℕ → List ℕ → Bool
  -- of an entry's and a device name's canonical form
  pub compatible : List ℕ → List ℕ → Bool

-- the laws that the containers' theorems rest on
pub record Lawful (R : IdRules) : Type 0 where
  pub canon_again : (x : List ℕ) → R.canon (R.canon x) ≡ R.canon x
  pub canon_short : (x : List ℕ) → length (R.canon x) ≤ 256
  pub same_self : (x : List ℕ) → empty (R.canon x) ≡ false → R.same_meaning (R.canon x) (R.canon x) ≡ true
  pub same_sym : (x y : List ℕ) → R.same_meaning (R.canon x) (R.canon y) ≡ R.same_meaning (R.canon y) (R.canon x)
  pub mixed_sym : (x y : List ℕ) → R.mixed (R.canon x) (R.canon y) ≡ R.mixed (R.canon y) (R.canon x)
  -- of two entries that have different meanings and are not mixed, no device name is compatible with both
  pub one_compatible : (x y d : List ℕ) → empty (R.canon x) ≡ false → empty (R.canon y) ≡ false → empty (R.canon d) ≡ false
      → R.compatible (R.canon x) (R.canon d) ≡ true → R.compatible (R.canon y) (R.canon d) ≡ true
      → R.same_meaning (R.canon x) (R.canon y) ≡ false → R.mixed (R.canon x) (R.canon y) ≡ false → ⊥
