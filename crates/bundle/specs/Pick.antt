-- The pick of an image by a device name, for every `IdRules`. Definitions only.
use Rattle.std.specs.Prelude.{ℕ, Bool, not, List, take, drop}
use Rattle.wire.specs.Bytes.{empty}
use Rattle.wire.specs.First.{first, any_below}
use Rattle.wire.specs.Stop.{Stop, ◌⨾◌, stop_if, unrefused}
use Rattle.entry_id.specs.IdRules.{IdRules}
use Rattle.bundle.specs.Table.{count, row}
use Rattle.bundle.specs.Check.{bundle_stop}
use Rattle.bundle.specs.declared.Picked.{Picked}

module _ (R : IdRules) where
  -- entry i is compatible with the device name
  unfoldable pub compatible_at : List ℕ → List ℕ → ℕ → Bool
  compatible_at s device i = R.compatible (R.canon (row s i).id) (R.canon device)

  -- the index of the compatible entry; the count where there is none
  unfoldable pub chosen : List ℕ → List ℕ → ℕ
  chosen s device = first (count s) (compatible_at s device)

  -- "A pick checks 1 to 8 [and 21], then 9, then 10": 9 QUERY "the device name breaks the ID rules", 10 NONE "no compatible entry"
  unfoldable pub pick_stop : List ℕ → List ℕ → Stop
  pick_stop s device =
      bundle_stop R s
      ⨾ stop_if 9 (empty (R.canon device))
      ⨾ stop_if 10 (not (any_below (count s) (compatible_at s device)))

  -- "A pick returns entry index, image position and size."
  unfoldable pub pick : List ℕ → List ℕ → Picked
  pick s device =
      let t = pick_stop s device in
      let i = chosen s device in
      record { number = t.number; place = t.place; index = unrefused t i; position = unrefused t (row s i).offset; size = unrefused t (row s i).size }

  -- the bytes of the image that a pick names; none where it is refused
  unfoldable pub picked_image : List ℕ → List ℕ → List ℕ
  picked_image s device = let p = pick s device in take p.size (drop p.position s)
