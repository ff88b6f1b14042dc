-- Demand 2 of bundles. Of any reading of entry IDs: what the check, its places and a pick promise, and that their tests are those on what the texts
-- mean, as they are spelled. Of the project's own rules: what the pick for each of several names, the lookup in two bundles, an entry by its index and the
-- bundle writer promise, which no other reading has.
-- Statements only; `proofs/Demand2` proves `Demand2` and `GeneralCalls`.
use Rattle.std.specs.Prelude.{ℕ, ◌≡◌, Bool, not, List, T}
use Rattle.wire.specs.Bytes.{empty}
use Rattle.entry_id.specs.Meaning.{Meaning}
use Rattle.entry_id.specs.Compare.{compatible, same_meaning, mixed}
use Rattle.entry_id.specs.IdRules.{IdRules}
use Rattle.entry_id.specs.Rules.{id_rules}
use Rattle.bundle.specs.Table.{Row, row}
use Rattle.bundle.specs.Check.{bad_id, mean_same, mix}
use Rattle.bundle.specs.Pick.{compatible_at}
use Rattle.bundle.specs.Theorems.{CheckExact, PlaceExact, OverlapExact, ImagesApart, PickExact, FramedExact, TableDecides}
use Rattle.bundle.specs.Each.{EachExact}
use Rattle.bundle.specs.Lookup.{LookupExact}
use Rattle.bundle.specs.EntryAt.{EntryExact}
use Rattle.bundle.specs.Writer.{WritesRead}

-- the rules R, the texts that are IDs by them, and what they mean
module _ (R : IdRules) (valid : List ℕ → Bool) (mean : List ℕ → Meaning) where
  -- the tests of 5, 7, 8, 9 and 10, on the texts as spelled
  pub record ByMeaning : Type 0 where
    -- 5 "an ID breaks the rules above"; 9 "the device name breaks the ID rules"
    pub id_broken : (r : Row) → bad_id R r ≡ not (valid r.id)
    pub name_broken : (device : List ℕ) → empty (R.canon device) ≡ not (valid device)
    -- 7 "the same meaning"; 8 "equal kind, triple and processor .. other feature names"
    pub means_same : (r q : Row) → T (valid r.id) → T (valid q.id) → mean_same R r q ≡ same_meaning (mean r.id) (mean q.id)
    pub is_mixed : (r q : Row) → T (valid r.id) → T (valid q.id) → mix R r q ≡ mixed (mean r.id) (mean q.id)
    -- 10 "no compatible entry"
    pub fits : (s device : List ℕ) (i : ℕ) → T (valid (row s i).id) → T (valid device) → compatible_at R s device i ≡ compatible (mean (row s i).id) (mean device)

  -- of the check and the pick
  pub record Demand2 : Type 0 where
    -- "A container is accepted exactly when [the] rules hold" (RULES 7.4).
    pub checked : (s : List ℕ) → CheckExact R s
    pub places : (s : List ℕ) → PlaceExact R s
    -- 21 in bytes, and what "an accepted table also has" (RULES 4.6)
    pub overlap : OverlapExact
    pub apart : ImagesApart R
    -- "A pick returns the image of the one compatible entry, or NONE exactly if there is none."
    pub picked : (s device : List ℕ) → PickExact R s device
    -- "If a bundle passes 1 to 4, it and any bundle of the same length that agrees with it in every byte before its table end get the same answers"
    pub framed : (s : List ℕ) → FramedExact s
    pub table_decides : TableDecides R
    pub by_meaning : ByMeaning

-- of the calls that only the project's own rules have
pub record GeneralCalls : Type 0 where
  -- the pick for each of several device names (RULES 18)
  pub each : (s buffer : List ℕ) (names slots : List (List ℕ)) → EachExact id_rules s buffer names slots
  -- the image from two bundles (RULES 19)
  pub lookup : (patch main device : List ℕ) → LookupExact id_rules patch main device
  -- an entry by its index (RULES 9)
  pub entry : (s : List ℕ) (i : ℕ) → EntryExact id_rules s i
  -- "What a writer writes reads back as given, in order."
  pub written : WritesRead id_rules
