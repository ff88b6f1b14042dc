-- What the private functions promise each other. No public promise rests on this file.
use Rattle.std.specs.Prelude.{ℕ, ◌-◌, ◌<◌, ◌≤◌, ◌≡◌, true, false, List, ◌++◌, map, length, drop, replicate, Option, MatchOption}
use Rattle.wire.specs.Rows.{Added}
use Rattle.offload_binary.specs.Binary.{no_part}
use Rattle.offload_binary.specs.Reader.{end_to_end}
use Rattle.offload_binary.specs.Recovery.{passes, takes, taken, skips, skipped, copied, span_row}
use Rattle.offload_binary.specs.RecoveryTheorems.{TakenFrom}
use Rattle.offload_binary.specs.declared.Part.{Part}

-- at no position from one place on and before another does a binary pass
abbrev pub NonePasses : List ℕ → ℕ → ℕ → Type 0
NonePasses s from to = (i : ℕ) → from ≤ i → i < to → passes s i ≡ false

-- the lowest position between the two at which one does, if any
abbrev pub LowestBetween : List ℕ → ℕ → ℕ → Option ℕ → Type 0
LowestBetween s from to r = MatchOption r (NonePasses s from to) (λ p. (from ≤ p) × (p < to) × NonePasses s from p × (passes s p ≡ true))

-- parts in an array of 65
abbrev pub Filled : List Part → List Part → Type 0
Filled parts list = list ≡ parts ++ replicate (65 - length parts) no_part

-- the binaries taken, in an array, and how many there are
pub record Listed (s : List ℕ) (count : ℕ) (list : List Part) : Type 0 where
  pub count_is : count ≡ length (taken s)
  pub list_is : Filled (taken s) list

-- and their bytes together
pub record Found (s : List ℕ) (count total : ℕ) (list : List Part) : Type 0 where
  pub listed : Listed s count list
  pub total_is : total ≡ length (copied s)

-- n are found, and the rest is found from the cursor on
pub record Finding (s : List ℕ) (n cursor total : ℕ) (list : List Part) : Type 0 where
  pub done : List Part
  pub n_is : n ≡ length done
  pub few : n ≤ 65
  pub inside : cursor ≤ length s
  pub list_is : Filled done list
  pub total_is : total ≡ length (end_to_end s done)
  pub total_le : total ≤ cursor
  pub rest : taken s ≡ done ++ takes (65 - n) s cursor

-- the binaries from i on are left, and what was skipped before them was put
pub record Skipping (s : List ℕ) (room : ℕ) (out : List (List ℕ)) (i cursor k : ℕ) (after : List (List ℕ)) : Type 0 where
  pub inside : cursor ≤ length s
  pub left : TakenFrom s cursor (drop i (taken s))
  pub done : List Part
  pub rest : skipped s ≡ done ++ skips (length s) cursor (drop i (taken s))
  pub added : Added room out 0 (map span_row done) k after
