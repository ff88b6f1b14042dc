-- Examples of the lookup in two bundles, a patch before the main one: one table under one claim. Statements only.
use Rattle.std.specs.Prelude.{ℕ, ◌≡◌, List, []}
use Rattle.wire.specs.Bytes.{bytes}
use Rattle.entry_id.specs.Rules.{id_rules}
use Rattle.bundle.specs.Lookup.{not_found, lookup, lookup_image}
use Rattle.bundle.specs.declared.Found.{Found}
use Rattle.examples.specs.Examples.{host, gfx906, hipv4, on, off, no_entries, one_host, two, spans}

-- ---- what the examples speak of

-- a factory's bundle with the entry `host`, a patch with another image for it, and one with an empty image
abbrev pub factory : List ℕ
factory = one_host 5 (bytes "image")

abbrev pub patch : List ℕ
patch = one_host 3 (bytes "new")

abbrev pub emptied : List ℕ
emptied = one_host 0 []

-- a bundle with two cards, and one that is refused: MIXED at the second entry
abbrev pub cards : List ℕ
cards = two (on gfx906) (off hipv4)

abbrev pub broken : List ℕ
broken = two gfx906 (on gfx906)

-- a lookup that is accepted
abbrev pub found : ℕ → ℕ → ℕ → Found
found bundle position size = record { number = 0; place = 0; bundle = bundle; position = position; size = size }

-- ---- the table

pub record LookupExamples : Type 0 where
  -- "The patch answers where it has a compatible entry"
  pub by_patch : lookup id_rules patch factory host ≡ found 1 86 3
  pub by_patch_image : lookup_image id_rules patch factory host ≡ bytes "new"
  -- "the main bundle answers only where the patch would say NONE"
  pub by_main : lookup id_rules cards factory host ≡ found 2 86 5
  pub by_main_image : lookup_image id_rules cards factory host ≡ bytes "image"
  pub no_patch : lookup id_rules no_entries factory host ≡ found 2 86 5
  -- "An image in the patch of size 0 is an answer too."
  pub empty_image : lookup id_rules emptied factory host ≡ found 1 86 0
  pub empty_image_part : lookup_image id_rules emptied factory host ≡ []
  -- a patch in the other spelling of the kind
  pub either_kind : lookup id_rules (two (on hipv4) (off hipv4)) cards (on gfx906) ≡ found 1 154 0
  -- "then QUERY, then NONE if neither has one"
  pub query : lookup id_rules patch factory (bytes "host") ≡ not_found 9 0 0
  pub none : lookup id_rules patch factory gfx906 ≡ not_found 10 0 0
  -- a refusal "by 1 to 8 names the bundle", and the patch is checked first
  pub patch_refused : lookup id_rules broken [] host ≡ not_found 8 1 1
  -- the main bundle is checked where the patch has an image too, and before QUERY
  pub main_refused : lookup id_rules patch broken host ≡ not_found 8 1 2
  pub main_overlaps : lookup id_rules patch (spans 0 4 3 4) host ≡ not_found 21 1 2
  pub before_query : lookup id_rules patch [] (bytes "host") ≡ not_found 2 0 2
  -- "A refusal hands back an empty part"
  pub no_part : lookup_image id_rules patch broken host ≡ []
