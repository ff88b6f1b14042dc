-- "hip and hipv4 are one thing now", of bundles, at the project's own rules of entry IDs. Statements only;
-- `proofs/EitherSpelling` proves it.
use Rattle.std.specs.Prelude.{ℕ, ◌<◌, ◌≤◌, ◌≡◌, List, T}
use Rattle.entry_id.specs.Meaning.{valid}
use Rattle.entry_id.specs.Rules.{id_rules}
use Rattle.entry_id.specs.Theorems.{hip_id, hipv4_id}
use Rattle.bundle.specs.Table.{count, row}
use Rattle.bundle.specs.Check.{check}
use Rattle.bundle.specs.Pick.{pick}

pub record EitherSpelling : Type 0 where
  -- "a bundle with both spellings of one entry is refused by 7", if not by what is tried before: 1 to 6 or 21
  pub twice : (s t : List ℕ) → T (valid (hip_id t)) → T (valid (hipv4_id t))
      → (i j : ℕ) → i < count s → j < count s → (row s i).id ≡ hip_id t → (row s j).id ≡ hipv4_id t
      → (1 ≤ (check id_rules s).number) × (7 < (check id_rules s).number → (check id_rules s).number ≡ 21)
  -- "compatibility treats them as equal": a device name in either spelling gets the same answer
  pub picked : (s t : List ℕ) → T (valid (hip_id t)) → T (valid (hipv4_id t)) → pick id_rules s (hip_id t) ≡ pick id_rules s (hipv4_id t)
