-- What holds of every sequence of offload binaries (RULES 13, 16.3). Statements only: `Theorems` is proved in proofs/SequenceTheorems.antt.
use Rattle.std.specs.Prelude.{ℕ, suc, ◌+◌, ◌<◌, ◌≤◌, ◌↔◌, ◌≡◌, true, List, [], ◌∷◌, ◌++◌, map, length, get_or, drop}
use Rattle.wire.specs.Limit.{limit}
use Rattle.wire.specs.Lists.{joined}
use Rattle.offload_binary.specs.Binary.{no_binary, bytes_at, size_of, binary_stop, binary, handed, refused}
use Rattle.offload_binary.specs.Reader.{next, cursor_after, answer, accepted, binaries, part_of, end_to_end}
use Rattle.offload_binary.specs.Contents.{Contents, contents, written}
use Rattle.offload_binary.specs.Theorems.{Writable}
use Rattle.offload_binary.specs.declared.Cursor.{Cursor}
use Rattle.offload_binary.specs.declared.Part.{Part}

-- "A strip is accepted exactly when its reader reaches END."
abbrev pub AcceptedAtEnd : List ℕ → Type 0
AcceptedAtEnd s = accepted s ≡ true ↔ ((n : ℕ) × ((answer s n).number ≡ 19))

-- "hands back its binaries one after another": none is repeated, none is skipped
pub record OneAfterAnother (s : List ℕ) : Type 0 where
  -- the first starts at the first byte
  pub first : (answer s 0).number ≡ 0 → (answer s 0).binary.start ≡ 0
  -- each other follows one, and "starts where the size says"
  pub next : (n : ℕ) → (answer s (suc n)).number ≡ 0 → ((answer s n).number ≡ 0) × ((answer s (suc n)).binary.start ≡ (answer s n).binary.start + (answer s n).binary.size)
  -- each is what the bytes from its first byte on say, and none of 13 to 17 refuses them
  pub each : (n : ℕ) → (answer s n).number ≡ 0
      → ((binary_stop (drop (answer s n).binary.start s)).number ≡ 0) × ((answer s n).binary ≡ binary (answer s n).binary.start (drop (answer s n).binary.start s))
  -- what ends them stands at the first byte, or right behind the last; "END: the length"
  pub first_stop : ((answer s 0).number ≡ 0 → ⊥) → (answer s 0).place ≡ 0
  pub stop : (n : ℕ) → (answer s n).number ≡ 0 → ((answer s (suc n)).number ≡ 0 → ⊥) → (answer s (suc n)).place ≡ (answer s n).binary.start + (answer s n).binary.size
  pub end : (n : ℕ) → (answer s n).number ≡ 19 → (answer s n).place ≡ length s

-- the answers on an accepted sequence are its binaries, then END
pub record ReadsAll (s : List ℕ) : Type 0 where
  pub each : (n : ℕ) → n < length (binaries s) → answer s n ≡ handed (get_or (binaries s) n no_binary)
  pub end : (n : ℕ) → length (binaries s) ≤ n → answer s n ≡ refused 19 (length s)

-- "After a refusal (LENGTH at opening too) or END it stays where it is, and asking again gives the same."
abbrev pub Stays : List ℕ → Type 0
Stays s = (n k : ℕ) → ((answer s n).number ≡ 0 → ⊥) → (cursor_after (n + k) s ≡ cursor_after n s) × (answer s (n + k) ≡ answer s n)

-- what is written reads back, behind any bytes and before any others, as the kinds, flags, image, keys and texts given, in order
module _ (g : Contents) (front rest : List ℕ) (taken : ℕ) where
  abbrev around : List ℕ
  around = front ++ (written g ++ rest)

  abbrev there : Cursor
  there = record { position = length front; taken = taken }

  pub record ReadsBack : Type 0 where
    pub taken_up : (next around there).answer.number ≡ 0
    pub moved : (next around there).cursor ≡ record { position = length front + length (written g); taken = taken + 1 }
    pub holds : contents around (next around there).answer.binary ≡ g

abbrev pub All : {A : Type 0} → (A → Type 0) → List A → Type 0
All P [] = Unit {0}
All P (x ∷ xs) = P x × All P xs

-- a part of s is a binary: none of 13 to 17 refuses it, and it is as long as its size says
pub record IsBinary (s : List ℕ) (p : Part) : Type 0 where
  pub sound : (binary_stop (drop p.start s)).number ≡ 0
  pub size : p.len ≡ size_of (drop p.start s)

-- such parts laid end to end are accepted, and what is read from them are their bytes, in order
pub record LaysOut (s : List ℕ) (parts : List Part) : Type 0 where
  pub is_accepted : accepted (end_to_end s parts) ≡ true
  pub bytes : map (λ b. bytes_at (end_to_end s parts) (part_of b)) (binaries (end_to_end s parts)) ≡ map (bytes_at s) parts

-- written binaries laid end to end
unfoldable pub laid : List Contents → List ℕ
laid gs = joined written gs

-- they are accepted, and read back as the list
pub record ListsBack (gs : List Contents) : Type 0 where
  pub is_accepted : accepted (laid gs) ≡ true
  pub holds : map (contents (laid gs)) (binaries (laid gs)) ≡ gs

pub record Theorems : Type 0 where
  pub accepted_at_end : (s : List ℕ) → AcceptedAtEnd s
  pub one_after_another : (s : List ℕ) → OneAfterAnother s
  pub reads_all : (s : List ℕ) → accepted s ≡ true → ReadsAll s
  pub stays : (s : List ℕ) → Stays s
  -- an accepted sequence is its binaries, one directly after another
  pub whole : (s : List ℕ) → accepted s ≡ true → end_to_end s (map part_of (binaries s)) ≡ s
  pub lays_out : (s : List ℕ) (parts : List Part) → All (IsBinary s) parts → length parts ≤ 64 → length (end_to_end s parts) ≤ limit → LaysOut s parts
  pub reads_back : (g : Contents) (front rest : List ℕ) (taken : ℕ) → Writable g → taken < 64 → length (front ++ (written g ++ rest)) ≤ limit → ReadsBack g front rest taken
  pub lists_back : (gs : List Contents) → All Writable gs → length gs ≤ 64 → length (laid gs) ≤ limit → ListsBack gs
