-- The image for a device name from two bundles, a patch before the main one, for every `IdRules`. Definitions, and the statement of what holds of them,
-- which `proofs/LookupLaws` proves.
use Rattle.std.specs.Prelude.{ℕ, zero, suc, ◌+◌, ◌≤◌, ◌≡◌, ◌↔◌, ◌⊎◌, Bool, true, not, ◌||◌, cond, List, [], ◌∷◌, eqb, length, take, drop}
use Rattle.wire.specs.Bytes.{empty}
use Rattle.wire.specs.First.{any_below}
use Rattle.wire.specs.Stop.{Stop, ◌⨾◌, stop_if, unrefused}
use Rattle.entry_id.specs.IdRules.{IdRules}
use Rattle.bundle.specs.Table.{count, table_end}
use Rattle.bundle.specs.Check.{bundle_stop, refused_of, check}
use Rattle.bundle.specs.Pick.{compatible_at, pick, picked_image}
use Rattle.bundle.specs.Accepted.{Accepted}
use Rattle.bundle.specs.Theorems.{refusal}
use Rattle.bundle.specs.declared.Found.{Found}
use Rattle.bundle.specs.declared.Picked.{Picked}

-- a refusal, which may name a bundle
abbrev pub not_found : ℕ → ℕ → ℕ → Found
not_found number place bundle = record { number = number; place = place; bundle = bundle; position = 0; size = 0 }

-- the image of a pick, from the bundle of this number
abbrev pub found_in : ℕ → Picked → Found
found_in bundle p = record { number = 0; place = 0; bundle = bundle; position = p.position; size = p.size }

-- the numbers of an answer, one after another
unfoldable pub numbers_of : Found → List ℕ
numbers_of f = f.number ∷ f.place ∷ f.bundle ∷ f.position ∷ f.size ∷ []

-- "1 patch, 2 main, else 0": the bundle of a number
unfoldable pub bundle_of : List ℕ → List ℕ → ℕ → List ℕ
bundle_of patch main k = cond (eqb k 1) patch (cond (eqb k 2) main [])

-- a bundle "has a compatible entry"
unfoldable pub has : IdRules → List ℕ → List ℕ → Bool
has R device s = any_below (count s) (compatible_at R s device)

module _ (R : IdRules) (patch main device : List ℕ) where
  -- "Patch is checked 1 to 8 [and 21], then main 1 to 8 [and 21], then QUERY, then NONE if neither has one."
  unfoldable pub lookup_stop : Stop
  lookup_stop =
      bundle_stop R patch
      ⨾ bundle_stop R main
      ⨾ stop_if 9 (empty (R.canon device))
      ⨾ stop_if 10 (not (has R device patch || has R device main))

  -- "The patch answers where it has a compatible entry; the main bundle answers only where the patch would say NONE.": the number of the bundle
  unfoldable pub answering : ℕ
  answering = cond (has R device patch) 1 2

  -- "a number that says which (1 patch, 2 main, else 0)"; a refusal "by 1 to 8 [and 21] names the bundle by the same number, despite 01's zeros"
  unfoldable pub lookup : Found
  lookup =
      let t = lookup_stop in
      let p = pick R (bundle_of patch main answering) device in
      record {
        number = t.number;
        place = t.place;
        bundle = refused_of (bundle_stop R patch) (bundle_stop R main) (unrefused t answering);
        position = unrefused t p.position;
        size = unrefused t p.size;
      }

  -- "the image itself, a part of whichever of the two holds it"; "A refusal hands back an empty part"
  unfoldable pub lookup_image : List ℕ
  lookup_image = elim lookup_stop.number [ zero ↦ picked_image R (bundle_of patch main answering) device | suc k ↦ [] ]

  -- each refusal and each answer, exactly in its own case; then the bytes
  pub record LookupExact : Type 0 where
    -- what the check of the patch refuses, then what the check of the main bundle refuses, each with its number and place, "names the bundle"
    pub refused_patch : (k : ℕ) → (check R patch).number ≡ suc k → lookup ≡ not_found (check R patch).number (check R patch).place 1
    pub refused_main : Accepted R patch → (k : ℕ) → (check R main).number ≡ suc k → lookup ≡ not_found (check R main).number (check R main).place 2
    -- "then QUERY"
    pub query : (lookup ≡ not_found 9 0 0) ↔ (Accepted R patch × (Accepted R main × (empty (R.canon device) ≡ true)))
    -- "then NONE if neither has one"
    pub none : (lookup ≡ not_found 10 0 0) ↔ ((pick R patch device ≡ refusal 10 0) × (pick R main device ≡ refusal 10 0))
    -- "The patch answers where it has a compatible entry": whatever the size of its image, and whatever the main bundle has
    pub by_patch : (lookup ≡ found_in 1 (pick R patch device)) ↔ (((pick R patch device).number ≡ 0) × Accepted R main)
    -- "the main bundle answers only where the patch would say NONE"
    pub by_main : (lookup ≡ found_in 2 (pick R main device)) ↔ ((pick R patch device ≡ refusal 10 0) × ((pick R main device).number ≡ 0))
    -- and there is no other answer
    pub one_answers : lookup.number ≡ 0 → (lookup ≡ found_in 1 (pick R patch device)) ⊎ (lookup ≡ found_in 2 (pick R main device))
    -- the part is the image that the pick from the bundle named gives: it lies there after the table, where position and size say
    pub picked : lookup.number ≡ 0 → lookup_image ≡ picked_image R (bundle_of patch main lookup.bundle) device
    pub part : lookup_image ≡ take lookup.size (drop lookup.position (bundle_of patch main lookup.bundle))
    pub after : lookup.number ≡ 0 → table_end (bundle_of patch main lookup.bundle) ≤ lookup.position
    pub within : lookup.position + lookup.size ≤ length (bundle_of patch main lookup.bundle)
    -- "A refusal hands back an empty part"
    pub no_part : (k : ℕ) → lookup.number ≡ suc k → lookup_image ≡ []
