-- "A profile for our own cards": a stricter reading of entry IDs beside the general one. Definitions only.
-- Each has the sentence of document 02, request 6, that it renders.
use Rattle.std.specs.Prelude.{ℕ, Bool, not, ◌&&◌, ◌||◌, cond, List, [], ◌∷◌}
use Rattle.wire.specs.Lists.{any, every}
use Rattle.wire.specs.Bytes.{bytes, empty, same}
use Rattle.entry_id.specs.Meaning.{Feature, Meaning, meaning, shaped, proper, canonical_of}
use Rattle.entry_id.specs.Processors.{Processor, processors, stands, primary_in}

-- "For kind `hip`, `hipv4` or `openmp` with arch `amdgcn` and a processor"
unfoldable pub our_kinds : List (List ℕ)
our_kinds = bytes "hip" ∷ bytes "hipv4" ∷ bytes "openmp" ∷ []

unfoldable pub ours : Meaning → Bool
ours m = any (same m.kind) our_kinds && same m.arch (bytes "amdgcn") && not (empty m.processor)

-- "An alternative name means its primary"
unfoldable pub primary_of : List ℕ → List ℕ
primary_of n = primary_in processors n

-- "whether `sramecc` and `xnack` are supported"; "an unsupported feature (any other name too)"
unfoldable pub supported : Bool → Bool → Feature → Bool
supported sramecc xnack f = same f.name (bytes "sramecc") && sramecc || same f.name (bytes "xnack") && xnack

unfoldable pub supports : Processor → Feature → Bool
supports r f = supported r.sramecc r.xnack f

-- a row has the processor and supports every feature stated: "An unknown processor or an unsupported feature (any other name too) gets ID"
unfoldable pub known : Meaning → Bool
known m = any (λ r. stands m.processor r && every (supports r) m.features) processors

-- the same meaning with another processor
abbrev pub with_processor : Meaning → List ℕ → Meaning
with_processor m p = record { kind = m.kind; arch = m.arch; vendor = m.vendor; system = m.system; environment = m.environment; processor = p; features = m.features }

-- "An alternative name means its primary .. All other IDs read as before."
unfoldable pub with_primary : Meaning → Meaning
with_primary m = with_processor m (cond (ours m) (primary_of m.processor) m.processor)

unfoldable pub profile_meaning : List ℕ → Meaning
profile_meaning x = with_primary (meaning x)

-- what the profile's rules ask of the meaning: the general rules, so that "the 256-byte limit is on the form written with the primary"; of our own cards, a known processor and supported features
unfoldable pub profile_proper : Meaning → Bool
profile_proper m = proper m && (not (ours m) || known m)

-- the text is an entry ID, or a device name, by the profile's rules. "The field rule stays": what they ask of the text is what the general ones ask
unfoldable pub profile_valid : List ℕ → Bool
profile_valid x = shaped x && profile_proper (profile_meaning x)

-- the canonical form by the profile's rules: it "writes the primary". Empty where the text breaks them
unfoldable pub profile_canon : List ℕ → List ℕ
profile_canon x = cond (profile_valid x) (canonical_of (profile_meaning x)) []
