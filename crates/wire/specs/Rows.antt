-- Items put to a lent list that may be too short for them. No public promise rests on this file. Definitions only.
use Rattle.std.specs.Prelude.{ℕ, ◌+◌, ◌≡◌, List, cond, leb, length}
use Rattle.std.proofs.lemmas.List.Edits.{sets}

-- n, or one more than the room where n is above it
unfoldable pub up_to : ℕ → ℕ → ℕ
up_to room n = cond (leb n room) n (room + 1)

-- items were put to `out` from index k on, as far as it reaches: the next index, and the list. A list of none counts them, up to one more than the room.
pub record Added {A : Type 0} (room : ℕ) (out : List A) (k : ℕ) (items : List A) (next : ℕ) (after : List A) : Type 0 where
  pub next_is : next ≡ up_to room (k + length items)
  pub list_is : after ≡ sets out k items
