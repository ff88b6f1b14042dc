-- The binaries of a damaged sequence, recovered (RULES 20). Definitions only.
use Rattle.std.specs.Prelude.{ℕ, zero, suc, ◌+◌, ◌-◌, Bool, cond, ◌||◌, List, [], ◌∷◌, ◌++◌, map, length, get_or, drop, ltb, eqb}
use Rattle.wire.specs.Limit.{limit}
use Rattle.wire.specs.First.{first}
use Rattle.wire.specs.Stop.{Stop, stop, ◌⨾◌, stop_if, stop_when, unrefused, output}
use Rattle.offload_binary.specs.Binary.{no_part, size_of, binary_stop}
use Rattle.offload_binary.specs.Reader.{end_to_end}
use Rattle.offload_binary.specs.declared.Part.{Part}
use Rattle.offload_binary.specs.declared.Recovered.{Recovered}

-- ---- the search

-- at a position "a binary passes 13 to 17"
unfoldable pub passes : List ℕ → ℕ → Bool
passes s p = eqb (binary_stop (drop p s)).number 0

-- "from the cursor .. the lowest position at which a binary passes": the length where there is none
unfoldable pub lowest : List ℕ → ℕ → ℕ
lowest s cursor = cursor + first (length s - cursor) (λ i. passes s (cursor + i))

-- the binary there
abbrev pub part_at : List ℕ → ℕ → Part
part_at s p = record { start = p; len = size_of (drop p s) }

-- "take the lowest position .., go on after it": the first n binaries from the cursor on
unfoldable pub takes : ℕ → List ℕ → ℕ → List Part
takes zero s cursor = []
takes (suc n) s cursor =
    let p = lowest s cursor in
    cond (ltb p (length s)) (part_at s p ∷ takes n s (p + size_of (drop p s))) []

-- "from the cursor, at first the strip's first byte": a 65th is looked for, since it refuses the call
unfoldable pub taken : List ℕ → List Part
taken s = takes 65 s 0

-- ---- what is skipped

-- what lies between two places, where anything does
unfoldable pub gap : ℕ → ℕ → List Part
gap from to = cond (ltb from to) (record { start = from; len = to - from } ∷ []) []

-- "each unbroken skipped span .., in rising order": before the first of the parts, between two of them, and after the last
unfoldable pub skips : ℕ → ℕ → List Part → List Part
skips end cursor [] = gap cursor end
skips end cursor (c ∷ cs) = gap cursor c.start ++ skips end (c.start + c.len) cs

unfoldable pub skipped : List ℕ → List Part
skipped s = skips (length s) 0 (taken s)

-- ---- the call

-- "copy it out": one after another
unfoldable pub copied : List ℕ → List ℕ
copied s = end_to_end s (taken s)

-- "Report each .. span as start and length"
abbrev pub span_row : Part → List ℕ
span_row c = c.start ∷ c.len ∷ []

-- "A 65th found binary gives 18 with its first byte as place; 1, 18 and 12 (for the copies or the list of spans) are the only refusals, in that order"
unfoldable pub recover_stop : List ℕ → ℕ → ℕ → Stop
recover_stop s room spans =
    stop_if 1 (ltb limit (length s))
    ⨾ stop_when (ltb 64 (length (taken s))) (stop 18 (get_or (taken s) 64 no_part).start)
    ⨾ stop_if 12 (ltb room (length (copied s)) || ltb spans (length (skipped s)))

-- what is returned: number and place, the bytes copied and the spans reported
unfoldable pub recover : List ℕ → ℕ → ℕ → Recovered
recover s room spans =
    let t = recover_stop s room spans in
    record { number = t.number; place = t.place; length = unrefused t (length (copied s)); spans = unrefused t (length (skipped s)) }

-- the lent output and the lent list afterwards: "and then nothing is written", "what lies past a length written stays as it was"
unfoldable pub copied_to : List ℕ → ℕ → List ℕ → List ℕ
copied_to s spans out = output (recover_stop s (length out) spans) (copied s) out

unfoldable pub skipped_to : List ℕ → ℕ → List (List ℕ) → List (List ℕ)
skipped_to s room spans = output (recover_stop s room (length spans)) (map span_row (skipped s)) spans
