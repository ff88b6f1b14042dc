-- Offload binaries laid end to end: the reader, and which sequences are accepted (RULES 13). Definitions only.
use Rattle.std.specs.Prelude.{ℕ, zero, suc, ◌+◌, Bool, ◌&&◌, ◌||◌, cond, List, [], ◌∷◌, length, drop, leb, ltb, eqb}
use Rattle.wire.specs.Bytes.{empty}
use Rattle.wire.specs.Stop.{Stop, ◌⨾◌, stop_if}
use Rattle.wire.specs.Limit.{limit}
use Rattle.wire.specs.Lists.{joined}
use Rattle.offload_binary.specs.Binary.{bytes_at, size_of, binary_stop, binary, handed, refused}
use Rattle.offload_binary.specs.declared.Part.{Part}
use Rattle.offload_binary.specs.declared.Binary.{Binary}
use Rattle.offload_binary.specs.declared.Cursor.{Cursor}
use Rattle.offload_binary.specs.declared.Answer.{Answer}
use Rattle.offload_binary.specs.declared.Step.{Step}

-- "A reader is opened": at the first byte, no binary read
abbrev pub opened : Cursor
opened = record { position = 0; taken = 0 }

-- "The next binary starts where the size says."
unfoldable pub past : List ℕ → Cursor → Cursor
past s c = record { position = c.position + size_of (drop c.position s); taken = c.taken + 1 }

-- "1 at opening; then for each binary END, 18, and 13 to 17". 19 END: "the strip is used up exactly". 18 MANY: "bytes remain after the 64th binary".
unfoldable pub next_stop : List ℕ → Cursor → Stop
next_stop s c =
    stop_if 1 (ltb limit (length s))
    ⨾ stop_if 19 (eqb c.position (length s))
    ⨾ stop_if 18 (leb 64 c.taken)
    ⨾ binary_stop (drop c.position s)

-- "the place is the first byte not yet read (END: the length)"; "After a refusal (LENGTH at opening too) or END it stays where it is"
abbrev step_by : ℕ → List ℕ → Cursor → Step
step_by zero s c = record { answer = handed (binary c.position (drop c.position s)); cursor = past s c }
step_by (suc k) s c = record { answer = refused (suc k) c.position; cursor = c }

-- what the next call answers, and where the reader then stands
unfoldable pub next : List ℕ → Cursor → Step
next s c = step_by (next_stop s c).number s c

-- where the reader stands after n calls, and what call n answers, counted from 0
unfoldable pub cursor_after : ℕ → List ℕ → Cursor
cursor_after zero s = opened
cursor_after (suc n) s = (next s (cursor_after n s)).cursor

unfoldable pub answer : List ℕ → ℕ → Answer
answer s n = (next s (cursor_after n s)).answer

-- ---- accepted, with no reader: at most 64 binaries that none of 13 to 17 refuses, one after another, and nothing else

unfoldable pub binaries_only : ℕ → List ℕ → Bool
binaries_only zero b = empty b
binaries_only (suc n) b = empty b || eqb (binary_stop b).number 0 && binaries_only n (drop (size_of b) b)

unfoldable pub accepted : List ℕ → Bool
accepted s = leb (length s) limit && binaries_only 64 s

-- the binaries of such a sequence, b the bytes from the first of at most n on
unfoldable pub binaries_from : ℕ → ℕ → List ℕ → List Binary
binaries_from zero from b = []
binaries_from (suc n) from b = cond (empty b) [] (binary from b ∷ binaries_from n (from + size_of b) (drop (size_of b) b))

unfoldable pub binaries : List ℕ → List Binary
binaries s = binaries_from 64 0 s

-- ---- the bytes of binaries

-- a binary that was handed back, as a part of the bytes that it was read from
abbrev pub part_of : Binary → Part
part_of b = record { start = b.start; len = b.size }

-- the bytes of parts, one directly after another
unfoldable pub end_to_end : List ℕ → List Part → List ℕ
end_to_end s parts = joined (bytes_at s) parts
