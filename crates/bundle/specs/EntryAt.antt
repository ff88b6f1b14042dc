-- An entry of a bundle by its index, for every `IdRules`. Definitions, and the statement of what holds of them, which `proofs/EntryAtLaws` proves.
use Rattle.std.specs.Prelude.{ℕ, suc, ◌+◌, ◌<◌, ◌≤◌, ◌≡◌, ◌↔◌, not, List, ltb, length, take, drop}
use Rattle.wire.specs.Stop.{Stop, ◌⨾◌, stop_if, unrefused}
use Rattle.entry_id.specs.IdRules.{IdRules}
use Rattle.bundle.specs.Table.{count, row_start, row, table_end}
use Rattle.bundle.specs.Check.{bundle_stop, check}
use Rattle.bundle.specs.Entry.{image_of}
use Rattle.bundle.specs.Pick.{pick}
use Rattle.bundle.specs.Accepted.{Accepted}
use Rattle.bundle.specs.declared.Located.{Located}
use Rattle.bundle.specs.declared.Picked.{Picked}

-- the position and size of the image of entry i, and where its ID, as spelled, stands: after the 24 bytes of its row
abbrev pub located : List ℕ → ℕ → Located
located s i = record {
  number = 0;
  place = 0;
  position = (row s i).offset;
  size = (row s i).size;
  id_position = row_start s i + 24;
  id_length = length (row s i).id;
}

-- a refusal
abbrev pub unlocated : ℕ → ℕ → Located
unlocated number place = record { number = number; place = place; position = 0; size = 0; id_position = 0; id_length = 0 }

module _ (R : IdRules) where
  -- 1 to 8 and 21 as the check gives them, then 10 NONE: the index is not below the count
  unfoldable pub entry_stop : List ℕ → ℕ → Stop
  entry_stop s i = bundle_stop R s ⨾ stop_if 10 (not (ltb i (count s)))

  -- the entry at an index
  unfoldable pub entry_at : List ℕ → ℕ → Located
  entry_at s i =
      let t = entry_stop s i in
      let e = located s i in
      record {
        number = t.number;
        place = t.place;
        position = unrefused t e.position;
        size = unrefused t e.size;
        id_position = unrefused t e.id_position;
        id_length = unrefused t e.id_length;
      }

-- the pick that gives entry i with this image
abbrev pub pick_of : ℕ → Located → Picked
pick_of i e = record { number = e.number; place = e.place; index = i; position = e.position; size = e.size }

-- the bytes that e names are those of entry i: its ID stands in the table, its image after the table and inside the bundle
pub record Names (s : List ℕ) (i : ℕ) (e : Located) : Type 0 where
  pub id : take e.id_length (drop e.id_position s) ≡ (row s i).id
  pub id_within : e.id_position + e.id_length ≤ table_end s
  pub image : take e.size (drop e.position s) ≡ image_of s (row s i)
  pub image_after : table_end s ≤ e.position
  pub image_within : e.position + e.size ≤ length s

-- what the check refuses, NONE, and an entry, each exactly in its own case
pub record EntryExact (R : IdRules) (s : List ℕ) (i : ℕ) : Type 0 where
  pub refused : (k : ℕ) → (check R s).number ≡ suc k → entry_at R s i ≡ unlocated (check R s).number (check R s).place
  pub none : (entry_at R s i ≡ unlocated 10 0) ↔ (Accepted R s × (count s ≤ i))
  pub found : (entry_at R s i ≡ located s i) ↔ (Accepted R s × (i < count s))
  pub names : (entry_at R s i).number ≡ 0 → Names s i (entry_at R s i)
  -- a pick that gives entry i gives the image that stands here
  pub picked : (device : List ℕ) → (pick R s device).number ≡ 0 → (pick R s device).index ≡ i → pick R s device ≡ pick_of i (entry_at R s i)
