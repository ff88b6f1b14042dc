-- What is proved of entry IDs, as one record: proofs/Theorems.antt has its proof. Statements only.
use Rattle.std.specs.Prelude.{ℕ, ◌≤◌, ◌≡◌, ◌↔◌, Bool, true, false, not, ◌&&◌, ◌||◌, length, T}
use Prim.Native.Char.{code}
use mathlib.Core.List.{List, [], ◌∷◌, ◌++◌, map, Memᴰ}
use Rattle.wire.specs.Lists.{any, every}
use Rattle.wire.specs.Bytes.{bytes, same}
use Rattle.wire.specs.Order.{rising_by, distinct_by}
use Rattle.entry_id.specs.Text.{join_with, not_colon}
use Rattle.entry_id.specs.Meaning.{by_name, Feature, Meaning, pieces_of, names_processor, feature, meaning, field_byte, valid, canon}
use Rattle.entry_id.specs.Processors.{Processor, processors, stands, sound_table}
use Rattle.entry_id.specs.Profile.{ours, primary_of, profile_meaning, profile_valid, profile_canon}
use Rattle.entry_id.specs.Compare.{compared_kind, compared_as, compatible, same_meaning, mixed, same_names}
use Rattle.entry_id.specs.Canonical.{head_of, compatible_text, same_text, mixed_text}

-- a feature of this name is among them
unfoldable pub name_in : Feature → List Feature → Bool
name_in f l = any (λ g. same f.name g.name) l

pub record EntryIds : Type 0 where
  -- reading the canonical form gives the meaning back
  pub read_back : (x : List ℕ) → T (valid x) → meaning (canon x) ≡ meaning x
  -- equal canonical forms exactly when equal meanings
  pub one_form : (x y : List ℕ) → T (valid x) → T (valid y) → (canon x ≡ canon y) ↔ (meaning x ≡ meaning y)
  -- the canonical form of an ID is an ID, of 1 to 256 bytes; every canonical form is its own; a text that is no ID has none
  pub form_valid : (x : List ℕ) → T (valid x) → T (valid (canon x))
  pub form_size : (x : List ℕ) → T (valid x) → (1 ≤ length (canon x)) × (length (canon x) ≤ 256)
  pub form_again : (x : List ℕ) → canon (canon x) ≡ canon x
  pub form_none : (x : List ℕ) → valid x ≡ false → canon x ≡ []
  -- the meaning's features are exactly those that the text states, and of an ID each name once
  pub features_stated : (x : List ℕ) (f : Feature) → Memᴰ f (meaning x).features ↔ Memᴰ f (map feature (pieces_of x))
  pub stated_once : (x : List ℕ) → rising_by by_name (meaning x).features ≡ distinct_by by_name (map feature (pieces_of x))
  -- two IDs have the same meaning by the test exactly when their meanings are compared as the same
  pub same_is_equal : (a b : Meaning) → T (same_meaning a b) ↔ (compared_as a ≡ compared_as b)
  -- of features in order: the same names one after the other exactly when each has the names of the other
  pub same_names_lem : (a b : List Feature) → T (rising_by by_name a) → T (rising_by by_name b) → same_names a b ≡ (every (λ f. name_in f b) a && every (λ g. name_in g a) b)
  -- of two entries that are not mixed and have different meanings, no device name is compatible with both
  pub one_compatible : (x y d : List ℕ) → T (valid d) → T (compatible (meaning x) (meaning d)) → T (compatible (meaning y) (meaning d))
      → T (not (mixed (meaning x) (meaning y))) → compared_as (meaning x) ≡ compared_as (meaning y)
  -- the three tests depend on meanings alone: on canonical forms the tests on texts are those on meanings
  pub compatible_text_lem : (e d : List ℕ) → T (valid e) → T (valid d) → compatible_text (canon e) (canon d) ≡ compatible (meaning e) (meaning d)
  pub same_text_lem : (a b : List ℕ) → T (valid a) → T (valid b) → same_text (canon a) (canon b) ≡ same_meaning (meaning a) (meaning b)
  pub mixed_text_lem : (a b : List ℕ) → T (valid a) → T (valid b) → mixed_text (canon a) (canon b) ≡ mixed (meaning a) (meaning b)

-- the two spellings of one kind
unfoldable pub hip_kind : List ℕ → Bool
hip_kind k = same k (bytes "hip") || same k (bytes "hipv4")

-- a text behind either
abbrev pub hip_id : List ℕ → List ℕ
hip_id t = bytes "hip-" ++ t

abbrev pub hipv4_id : List ℕ → List ℕ
hipv4_id t = bytes "hipv4-" ++ t

-- "hip and hipv4 are one thing now."
pub record OneKind : Type 0 where
  -- kinds are compared as one exactly when they are the same or are these two
  pub apart : (j k : List ℕ) → same (compared_kind j) (compared_kind k) ≡ (same j k || (hip_kind j && hip_kind k))
  -- "both spellings of one entry": any text behind either has the same meaning
  pub twice : (t : List ℕ) → T (same_meaning (meaning (hip_id t)) (meaning (hipv4_id t)))
  -- no test sees which of the two a text begins with
  pub entry_either : (t : List ℕ) (d : Meaning) → compatible (meaning (hip_id t)) d ≡ compatible (meaning (hipv4_id t)) d
  pub device_either : (e : Meaning) (t : List ℕ) → compatible e (meaning (hip_id t)) ≡ compatible e (meaning (hipv4_id t))
  pub same_either : (t : List ℕ) (b : Meaning) → same_meaning (meaning (hip_id t)) b ≡ same_meaning (meaning (hipv4_id t)) b
  pub mixed_either : (t : List ℕ) (b : Meaning) → mixed (meaning (hip_id t)) b ≡ mixed (meaning (hipv4_id t)) b
  -- "The canonical form keeps the kind as spelled": those of the two spellings are different
  pub kept : (t u : List ℕ) → T (valid (hip_id t)) → T (valid (hipv4_id u)) → canon (hip_id t) ≡ canon (hipv4_id u) → ⊥

-- Where the processor starts and how far it runs, on the text itself: behind it stands r, which is empty or begins with a `:`.
pub record ProcessorRuns : Type 0 where
  -- "if the fifth field begins with `gfx` or `sm_`, the processor starts there and runs, hyphens included, to the first `:` or the end, and the
  -- environment is empty"
  pub fifth : (k a v s p r : List ℕ) → T (every (every field_byte) (k ∷ a ∷ v ∷ s ∷ [])) → T (every not_colon p) → head_of r ≡ [] → T (names_processor p)
      → let m = meaning (join_with (code "-") (k ∷ a ∷ v ∷ s ∷ p ∷ []) ++ r) in (m.environment ≡ []) × (m.processor ≡ p)
  -- "Otherwise the sixth field starts it and it runs on likewise."
  pub sixth : (k a v s e p r : List ℕ) → T (every (every field_byte) (k ∷ a ∷ v ∷ s ∷ e ∷ [])) → T (every not_colon p) → head_of r ≡ [] → names_processor e ≡ false
      → let m = meaning (join_with (code "-") (k ∷ a ∷ v ∷ s ∷ e ∷ p ∷ []) ++ r) in (m.environment ≡ e) × (m.processor ≡ p)
  -- so no environment begins like a processor
  pub environment : (x : List ℕ) → names_processor (meaning x).environment ≡ false

-- "Prove over the table as a whole that no name stands on two rows."
pub record ProcessorTable : Type 0 where
  -- one test over the whole table
  pub sound : sound_table processors ≡ true
  -- so of any two rows, r before s, no name stands on both
  pub once : (a b c : List Processor) (r s : Processor) (n : List ℕ) → processors ≡ a ++ r ∷ b ++ s ∷ c → T (stands n r) → T (stands n s) → ⊥
  -- every name on a row means the primary of that row, and a primary is its own
  pub means : (a b : List Processor) (r : Processor) (n : List ℕ) → processors ≡ a ++ r ∷ b → T (stands n r) → primary_of n ≡ r.primary
  pub primary_stays : (n : List ℕ) → primary_of (primary_of n) ≡ primary_of n

-- entry IDs by the profile's rules
pub record ProfileIds : Type 0 where
  -- reading the canonical form gives the meaning back; equal canonical forms exactly when equal meanings
  pub read_back : (x : List ℕ) → T (profile_valid x) → profile_meaning (profile_canon x) ≡ profile_meaning x
  pub one_form : (x y : List ℕ) → T (profile_valid x) → T (profile_valid y) → (profile_canon x ≡ profile_canon y) ↔ (profile_meaning x ≡ profile_meaning y)
  -- the canonical form of an ID is an ID; every canonical form is its own; a text that is no ID has none
  pub form_valid : (x : List ℕ) → T (profile_valid x) → T (profile_valid (profile_canon x))
  pub form_again : (x : List ℕ) → profile_canon (profile_canon x) ≡ profile_canon x
  pub form_none : (x : List ℕ) → profile_valid x ≡ false → profile_canon x ≡ []
  -- "All other IDs read as before."
  pub as_before : (x : List ℕ) → ours (meaning x) ≡ false → (profile_meaning x ≡ meaning x) × (profile_valid x ≡ valid x) × (profile_canon x ≡ canon x)
  -- the canonical form is one by the general rules, and means there what the profile gives
  pub general : (x : List ℕ) → canon (profile_canon x) ≡ profile_canon x
  pub general_meaning : (x : List ℕ) → T (profile_valid x) → meaning (profile_canon x) ≡ profile_meaning x
  -- "a stricter reading": an ID by the profile's rules is one by the general rules, and has the profile's form that its general form has
  pub stricter : (x : List ℕ) → T (profile_valid x) → T (valid x)
  pub from_general : (x : List ℕ) → profile_canon x ≡ profile_canon (canon x)
  -- what the tests find of two texts in general they find by the profile too: it changes the processor alone, and equal ones have equal primaries
  pub same_stays : (x y : List ℕ) → T (same_meaning (meaning x) (meaning y)) → T (same_meaning (profile_meaning x) (profile_meaning y))
  pub mixed_stays : (x y : List ℕ) → T (mixed (meaning x) (meaning y)) → T (mixed (profile_meaning x) (profile_meaning y))
  pub compatible_stays : (e d : List ℕ) → T (compatible (meaning e) (meaning d)) → T (compatible (profile_meaning e) (profile_meaning d))
