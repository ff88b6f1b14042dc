-- The pick for each of several device names, for every `IdRules`. Definitions, and the statement of what holds of them, which `proofs/EachLaws` proves.
use Rattle.std.specs.Prelude.{ℕ, suc, ◌+◌, ◌<◌, ◌≤◌, ◌≡◌, ◌↔◌, Bool, ◌&&◌, cond, List, [], ◌∷◌, eqb, leb, ltb, length, get_or, take, drop}
use Rattle.std.specs.Int.Count.{ones}
use Rattle.wire.specs.Bits.{bits_below, count_below, bit_at}
use Rattle.wire.specs.First.{any_below}
use Rattle.wire.specs.Lists.{tab, distinct}
use Rattle.wire.specs.Stop.{Stop, ◌⨾◌, stop_if, unrefused, output}
use Rattle.entry_id.specs.IdRules.{IdRules}
use Rattle.bundle.specs.Table.{count}
use Rattle.bundle.specs.Check.{bundle_stop, check}
use Rattle.bundle.specs.Pick.{pick}
use Rattle.bundle.specs.Accepted.{Accepted}
use Rattle.bundle.specs.Theorems.{refusal}
use Rattle.bundle.specs.declared.Picked.{Picked}
use Rattle.bundle.specs.declared.PickedEach.{PickedEach}

-- a part is its start and its length
abbrev pub start_of : List ℕ → ℕ
start_of part = get_or part 0 0

abbrev pub length_of : List ℕ → ℕ
length_of part = get_or part 1 0

-- "parts of one buffer": the bytes of a part; none of one "outside the buffer", and no bytes are no ID
unfoldable pub part_of : List ℕ → List ℕ → List ℕ
part_of buffer part = cond (leb (start_of part + length_of part) (length buffer)) (take (length_of part) (drop (start_of part) buffer)) []

-- "one slot per name with number, entry index, position and size"
unfoldable pub slot_of : Picked → List ℕ
slot_of p = p.number ∷ p.index ∷ p.position ∷ p.size ∷ []

-- a pick took entry i
unfoldable pub took : Picked → ℕ → Bool
took p i = eqb p.number 0 && eqb p.index i

-- the entries that picks took, one after another
unfoldable pub indices : List Picked → List ℕ
indices [] = []
indices (p ∷ ps) = cond (eqb p.number 0) (p.index ∷ indices ps) (indices ps)

-- a refusal
abbrev pub no_picks : ℕ → ℕ → PickedEach
no_picks number place = record { number = number; place = place; slots = 0; word = 0; taken = 0 }

module _ (R : IdRules) (s buffer : List ℕ) (names : List (List ℕ)) where
  -- "what the single pick gives for that name", of name k
  unfoldable pub pick_at : ℕ → Picked
  pick_at k = pick R s (part_of buffer (get_or names k []))

  -- "some card took entry i"
  unfoldable pub taken : ℕ → Bool
  taken i = any_below (length names) (λ k. took (pick_at k) i)

  -- "A container refusal (1 to 8) [and 21] refuses the whole call"; "After 1 to 8 come new number 23, RACK, for more than 16 names, then ROOM for fewer slots
  -- than names.": where `room` slots are lent
  unfoldable pub each_stop : ℕ → Stop
  each_stop room = bundle_stop R s ⨾ stop_if 23 (ltb 16 (length names)) ⨾ stop_if 12 (ltb room (length names))

  -- number and place, and how many slots are written; "Also return a 64-bit word with bit i set exactly when some card took entry i, and how many entries
  -- are taken."
  unfoldable pub pick_each : ℕ → PickedEach
  pick_each room =
      let t = each_stop room in
      record {
        number = t.number;
        place = t.place;
        slots = unrefused t (length names);
        word = unrefused t (bits_below 64 taken);
        taken = unrefused t (count_below 64 taken);
      }

  -- the lent slots afterwards: "what lies past a length written stays as it was"
  unfoldable pub slots_after : List (List ℕ) → List (List ℕ)
  slots_after slots = output (each_stop (length slots)) (tab (length names) (λ k. slot_of (pick_at k))) slots

-- some name took entry i
pub record Took (R : IdRules) (s buffer : List ℕ) (names : List (List ℕ)) (i : ℕ) : Type 0 where
  pub name : ℕ
  pub listed : name < length names
  pub picked : (pick_at R s buffer names name).number ≡ 0
  pub entry : (pick_at R s buffer names name).index ≡ i

-- not too many names, and a slot for each
pub record Slotted (names slots : List (List ℕ)) : Type 0 where
  pub few : length names ≤ 16
  pub room : length names ≤ length slots

module _ (R : IdRules) (s buffer : List ℕ) (names slots : List (List ℕ)) where
  abbrev pub answer : PickedEach
  answer = pick_each R s buffer names (length slots)

  abbrev pub after : List (List ℕ)
  after = slots_after R s buffer names slots

  -- each refusal and the acceptance, each exactly in its own case; then every number and every slot
  pub record EachExact : Type 0 where
    -- what the check refuses, with its number and place
    pub refused : (k : ℕ) → (check R s).number ≡ suc k → answer ≡ no_picks (check R s).number (check R s).place
    pub many : (answer ≡ no_picks 23 0) ↔ (Accepted R s × (16 < length names))
    pub no_room : (answer ≡ no_picks 12 0) ↔ (Accepted R s × ((length names ≤ 16) × (length slots < length names)))
    pub accepted : (answer.number ≡ 0) ↔ (Accepted R s × Slotted names slots)
    pub written : answer.number ≡ 0 → (answer.place ≡ 0) × (answer.slots ≡ length names)
    -- "Each slot equals what the single pick gives for that name."
    pub slot : answer.number ≡ 0 → (k : ℕ) → k < length names → get_or after k [] ≡ slot_of (pick R s (part_of buffer (get_or names k [])))
    -- "what lies past a length written stays as it was", and no slot is added
    pub beyond : answer.number ≡ 0 → drop (length names) after ≡ drop (length names) slots
    pub lent : length after ≡ length slots
    -- "writes no slot"
    pub kept : (k : ℕ) → answer.number ≡ suc k → after ≡ slots
    -- "QUERY (also for a part outside the buffer)": in its own slot
    pub outside : Accepted R s → (part : List ℕ) → length buffer < start_of part + length_of part → pick R s (part_of buffer part) ≡ refusal 9 0
    -- "bit i set exactly when some card took entry i"
    pub bit : answer.number ≡ 0 → (i : ℕ) → (bit_at answer.word i ≡ 1) ↔ Took R s buffer names i
    pub below : (i : ℕ) → Took R s buffer names i → i < count s
    -- "how many entries are taken": the ones of the word, and the distinct indices that were chosen
    pub counted : answer.taken ≡ ones answer.word
    pub chosen : answer.number ≡ 0 → answer.taken ≡ length (distinct (indices (tab (length names) (pick_at R s buffer names))))
