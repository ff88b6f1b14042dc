-- Demand 3, of any reading of entry IDs: normal forms are the same bytes exactly where bundles hold the same entries, and they are kept by the check,
-- the pick and a second normalising. Statements only; `proofs/Demand` proves `Demand3`.
use Rattle.std.specs.Prelude.{ℕ, ◌<◌, ◌≤◌, ◌≡◌, ◌↔◌, length}
use mathlib.Core.List.{List, map, Memᴰ}
use Rattle.wire.specs.Limit.{limit}
use Rattle.wire.specs.Stop.{over}
use Rattle.entry_id.specs.IdRules.{IdRules}
use Rattle.entry_id.specs.Meaning.{Feature, Meaning, pieces_of, feature}
use Rattle.bundle.specs.Table.{count, row}
use Rattle.bundle.specs.Check.{check}
use Rattle.bundle.specs.Entry.{image_of}
use Rattle.bundle.specs.Pick.{pick, picked_image}
use Rattle.bundle.specs.Normal.{normal, normalise, normalised}

-- ---- the same entries

-- the feature stands among those that the ID states, with its sign
unfoldable pub States : List ℕ → Feature → Type 0
States x f = Memᴰ f (map feature (pieces_of x))

-- by what texts mean
module _ (mean : List ℕ → Meaning) where
  -- of two IDs: "the same kind as spelled, triple, processor, stated features and signs"
  pub record SameId (x y : List ℕ) : Type 0 where
    pub kind : (mean x).kind ≡ (mean y).kind
    pub arch : (mean x).arch ≡ (mean y).arch
    pub vendor : (mean x).vendor ≡ (mean y).vendor
    pub system : (mean x).system ≡ (mean y).system
    pub environment : (mean x).environment ≡ (mean y).environment
    pub processor : (mean x).processor ≡ (mean y).processor
    pub features : (f : Feature) → States x f ↔ States y f

  -- of entry i of a and entry j of b: that, "and an image of the same size and bytes"
  pub record SameEntry (a : List ℕ) (i : ℕ) (b : List ℕ) (j : ℕ) : Type 0 where
    pub id : SameId (row a i).id (row b j).id
    pub size : (row a i).size ≡ (row b j).size
    pub image : image_of a (row a i) ≡ image_of b (row b j)

  -- "Two bundles hold the same entries when each entry of either has one in the other with .."
  pub record SameEntries (a b : List ℕ) : Type 0 where
    pub left : (i : ℕ) → i < count a → (j : ℕ) × (j < count b) × SameEntry a i b j
    pub right : (j : ℕ) → j < count b → (i : ℕ) × (i < count a) × SameEntry a i b j

-- ---- what a normal form keeps, for every `IdRules`

module _ (R : IdRules) where
  -- a pick from s and from t: the same image bytes, or the same number and place
  pub record SamePick (s t device : List ℕ) : Type 0 where
    pub number : (pick R s device).number ≡ (pick R t device).number
    pub place : (pick R s device).place ≡ (pick R t device).place
    pub image : picked_image R s device ≡ picked_image R t device

  -- normalising s writes t: "with room enough, normalising writes them and returns OK and that length"; "Room is enough at that length or more."
  pub record Writes (s t out : List ℕ) : Type 0 where
    pub returned : normalise R s (length out) ≡ record { number = 0; place = 0; length = length t }
    pub bytes : normalised R s out ≡ over t out

  -- of an accepted bundle s
  pub record Kept (s device : List ℕ) : Type 0 where
    -- the normal form is written
    pub written : (out : List ℕ) → length (normal R s) ≤ length out → Writes s (normal R s) out
    -- it is accepted, with as many entries, which is what the check says of s
    pub accepted : check R (normal R s) ≡ record { number = 0; place = 0; count = count s }
    pub checked : check R (normal R s) ≡ check R s
    -- normalising it again writes the same bytes
    pub again : (out : List ℕ) → length (normal R s) ≤ length out → Writes (normal R s) (normal R s) out
    -- a pick from it gives what a pick from s gives
    pub picked : SamePick s (normal R s) device

-- ---- the demand, of the rules R and what texts mean by them

pub record Demand3 (R : IdRules) (mean : List ℕ → Meaning) : Type 0 where
  -- of any two accepted bundles, also where a normal form is above the limit
  pub same_bytes : (a b : List ℕ) → (check R a).number ≡ 0 → (check R b).number ≡ 0 → (normal R a ≡ normal R b) ↔ SameEntries mean a b
  -- "within the size limit", and any bytes as a device name
  pub kept : (s device : List ℕ) → (check R s).number ≡ 0 → length (normal R s) ≤ limit → Kept R s device
