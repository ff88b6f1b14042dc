-- What holds of every recovery (RULES 20). Statements only: `Theorems` is proved in proofs/RecoveryTheorems.antt.
use Rattle.std.specs.Prelude.{ℕ, suc, ◌+◌, ◌<◌, ◌≤◌, ◌↔◌, ◌⊎◌, ◌≡◌, true, ◌&&◌, cond, List, [], ◌∷◌, ◌++◌, map, leb, ltb, length, get_or, drop}
use Rattle.wire.specs.Limit.{limit}
use Rattle.wire.specs.Lists.{total}
use Rattle.wire.specs.Stop.{over}
use Rattle.offload_binary.specs.Binary.{no_part, binary_stop}
use Rattle.offload_binary.specs.Reader.{accepted, binaries, part_of, end_to_end}
use Rattle.offload_binary.specs.SequenceTheorems.{All, IsBinary, LaysOut}
use Rattle.offload_binary.specs.Recovery.{taken, skipped, copied, recover, copied_to, skipped_to, span_row}
use Rattle.offload_binary.specs.declared.Part.{Part}
use Rattle.offload_binary.specs.declared.Recovered.{Recovered}

-- ---- the spans

-- 1 where the part has byte i, else 0; in how many parts of a list it lies
unfoldable pub has : ℕ → Part → ℕ
has i c = cond (leb c.start i && ltb i (c.start + c.len)) 1 0

abbrev pub times : ℕ → List Part → ℕ
times i parts = total (has i) parts

-- one behind another, with a byte between them
abbrev pub Apart : Part → Part → Type 0
Apart a b = a.start + a.len < b.start

-- each stands so to all that follow it
abbrev pub Pairs : {A : Type 0} → (A → A → Type 0) → List A → Type 0
Pairs R [] = Unit {0}
Pairs R (x ∷ l) = All (R x) l × Pairs R l

pub record WholeSequence (s : List ℕ) : Type 0 where
  -- "copied and skipped spans together are the whole strip": every byte of s lies in one of them and in one only, and no other byte in any
  pub exactly : (i : ℕ) → times i (taken s) + times i (skipped s) ≡ has i (record { start = 0; len = length s })
  -- "each unbroken skipped span .., in rising order": none is empty, and something was copied between two of them
  pub some : All (λ c. 1 ≤ c.len) (skipped s)
  pub rising : Pairs Apart (skipped s)

-- ---- the search

-- "from the cursor .. take the lowest position at which a binary passes"
pub record Lowest (s : List ℕ) (cursor : ℕ) (c : Part) : Type 0 where
  pub from : cursor ≤ c.start
  pub is_binary : IsBinary s c
  pub none_before : (i : ℕ) → cursor ≤ i → i < c.start → (binary_stop (drop i s)).number ≡ 0 → ⊥

-- "go on after it"
abbrev pub TakenFrom : List ℕ → ℕ → List Part → Type 0
TakenFrom s cursor [] = Unit {0}
TakenFrom s cursor (c ∷ cs) = Lowest s cursor c × TakenFrom s (c.start + c.len) cs

pub record LowestEach (s : List ℕ) : Type 0 where
  pub each : TakenFrom s 0 (taken s)
  -- and none is left: at no byte skipped does a binary pass
  pub none_left : length (taken s) ≤ 64 → (i : ℕ) → times i (skipped s) ≡ 1 → (binary_stop (drop i s)).number ≡ 0 → ⊥

-- ---- sequences that are not damaged

-- "an accepted strip comes out unchanged with nothing skipped"
pub record Unchanged (s : List ℕ) : Type 0 where
  pub parts : taken s ≡ map part_of (binaries s)
  pub nothing : skipped s ≡ []
  pub bytes : copied s ≡ s

-- "a damaged front followed by an accepted tail"
module _ (front tail : List ℕ) where
  -- "every binary taken from the front ends at or before the tail's first byte"
  abbrev pub EndsBefore : Part → Type 0
  EndsBefore c = c.start < length front → c.start + c.len ≤ length front

  abbrev pub InFront : Part → Type 0
  InFront c = (c.start < length front) × (c.start + c.len ≤ length front)

  abbrev pub behind : Part → Part
  behind c = record { start = length front + c.start; len = c.len }

  -- "every binary of the tail comes out exactly as if the tail had stood alone", behind those of the front
  pub record TailOut : Type 0 where
    pub fronts : List Part
    pub in_front : All InFront fronts
    pub parts : taken (front ++ tail) ≡ fronts ++ map behind (taken tail)
    pub alone : taken tail ≡ map part_of (binaries tail)
    pub bytes : copied (front ++ tail) ≡ end_to_end front fronts ++ tail

-- ---- the call

-- a refusal
abbrev pub not_recovered : ℕ → ℕ → Recovered
not_recovered number place = record { number = number; place = place; length = 0; spans = 0 }

module _ (s out : List ℕ) (spans : List (List ℕ)) where
  abbrev answer : Recovered
  answer = recover s (length out) (length spans)

  -- enough of either
  pub record Fits : Type 0 where
    pub copies : length (copied s) ≤ length out
    pub list : length (skipped s) ≤ length spans

  -- "1, 18 and 12 .. are the only refusals, in that order": each, and the acceptance, exactly in its own case
  pub record RecoverExact : Type 0 where
    pub long : (answer ≡ not_recovered 1 0) ↔ (limit < length s)
    -- "A 65th found binary gives 18 with its first byte as place"
    pub many : (answer ≡ not_recovered 18 (get_or (taken s) 64 no_part).start) ↔ ((length s ≤ limit) × (64 < length (taken s)))
    -- "for the copies or the list of spans"
    pub no_room : (answer ≡ not_recovered 12 0) ↔ ((length s ≤ limit) × (length (taken s) ≤ 64) × (Fits → ⊥))
    pub recovered : (answer ≡ record { number = 0; place = 0; length = length (copied s); spans = length (skipped s) }) ↔ ((length s ≤ limit) × (length (taken s) ≤ 64) × Fits)
    -- and there is no other answer
    pub only : (answer.number ≡ 0) ⊎ (answer.number ≡ 1) ⊎ (answer.number ≡ 18) ⊎ (answer.number ≡ 12)
    -- what is written
    pub copies : answer.number ≡ 0 → copied_to s (length spans) out ≡ over (copied s) out
    pub list : answer.number ≡ 0 → skipped_to s (length out) spans ≡ over (map span_row (skipped s)) spans
    -- "and then nothing is written"
    pub kept : (k : ℕ) → answer.number ≡ suc k → (copied_to s (length spans) out ≡ out) × (skipped_to s (length out) spans ≡ spans)
    -- the bytes copied are an accepted sequence, whose binaries are those that were taken
    pub lays_out : answer.number ≡ 0 → LaysOut s (taken s)
    -- "With room, an accepted strip comes out unchanged with nothing skipped."
    pub unchanged : accepted s ≡ true → length s ≤ length out → (answer ≡ record { number = 0; place = 0; length = length s; spans = 0 }) × (copied_to s (length spans) out ≡ over s out)
    -- room that is always enough
    pub enough : length s ≤ length out → 65 ≤ length spans → answer.number ≡ 12 → ⊥

-- "the limit of 64 and room permitting"
pub record TailCall (front tail out : List ℕ) (spans : List (List ℕ)) : Type 0 where
  pub out_is : TailOut front tail
  pub copies : copied_to (front ++ tail) (length spans) out ≡ over (end_to_end front out_is.fronts ++ tail) out

pub record Theorems : Type 0 where
  pub whole : (s : List ℕ) → WholeSequence s
  pub lowest_each : (s : List ℕ) → LowestEach s
  pub unchanged : (s : List ℕ) → accepted s ≡ true → Unchanged s
  pub tail_out : (front tail : List ℕ) → accepted tail ≡ true → All (EndsBefore front tail) (taken (front ++ tail)) → length (taken (front ++ tail)) ≤ 64 → TailOut front tail
  pub exact : (s out : List ℕ) (spans : List (List ℕ)) → RecoverExact s out spans
  pub tail_call : (front tail out : List ℕ) (spans : List (List ℕ)) → accepted tail ≡ true → All (EndsBefore front tail) (taken (front ++ tail))
      → (recover (front ++ tail) (length out) (length spans)).number ≡ 0 → TailCall front tail out spans
