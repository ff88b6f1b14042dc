-- What it is for rules of entry IDs to be those of one reading: which texts are IDs, and what they mean. Statement only; `proofs/RuleLaws` proves it of
-- the project's own rules. The demands on bundles are stated, and proved, of every reading.
use Rattle.std.specs.Prelude.{ℕ, ◌≡◌, ◌↔◌, Bool, not, T}
use mathlib.Core.List.{List, map, Memᴰ}
use Rattle.wire.specs.Bytes.{empty}
use Rattle.wire.specs.Order.{rising_by}
use Rattle.entry_id.specs.Meaning.{Feature, Meaning, by_name, pieces_of, feature}
use Rattle.entry_id.specs.Compare.{compatible, same_meaning, mixed}
use Rattle.entry_id.specs.IdRules.{IdRules}

-- the rules R read the texts that are valid, each as what it means
pub record Reads (R : IdRules) (valid : List ℕ → Bool) (mean : List ℕ → Meaning) : Type 0 where
  -- a text has no canonical form exactly when it is not valid
  pub broken : (x : List ℕ) → empty (R.canon x) ≡ not (valid x)
  -- equal canonical forms exactly when equal meanings
  pub one_form : (x y : List ℕ) → T (valid x) → T (valid y) → (R.canon x ≡ R.canon y) ↔ (mean x ≡ mean y)
  -- the meaning's features are exactly those that the text states, and of an ID they stand in order, each name once
  pub features_stated : (x : List ℕ) (f : Feature) → Memᴰ f (mean x).features ↔ Memᴰ f (map feature (pieces_of x))
  pub in_order : (x : List ℕ) → T (valid x) → T (rising_by by_name (mean x).features)
  -- the tests on canonical forms are those on meanings: the same meaning and mixed, of two entries; compatible, of an entry and a device name
  pub means_same : (x y : List ℕ) → T (valid x) → T (valid y) → R.same_meaning (R.canon x) (R.canon y) ≡ same_meaning (mean x) (mean y)
  pub is_mixed : (x y : List ℕ) → T (valid x) → T (valid y) → R.mixed (R.canon x) (R.canon y) ≡ mixed (mean x) (mean y)
  pub fits : (e d : List ℕ) → T (valid e) → T (valid d) → R.compatible (R.canon e) (R.canon d) ≡ compatible (mean e) (mean d)
