-- Entry IDs: what a text means, its canonical form, and which texts are IDs. Definitions only.
-- RULES 5. Each has the sentence of the requirements that it renders.
use Rattle.std.specs.Prelude.{ℕ, ◌-◌, Bool, true, false, not, ◌&&◌, ◌||◌, cond, List, [], ◌∷◌, ◌++◌, map, length, get_or, take, drop, eqb, leb}
use Prim.Native.Char.{code}
use Rattle.wire.specs.Lists.{any, every}
use Rattle.wire.specs.Bytes.{bytes, empty, same}
use Rattle.wire.specs.Order.{sort_by, rising_by}
use Rattle.entry_id.specs.Text.{split_on, join_with}

-- a stated feature: its name, and its sign, `+` (on) or `-` (off)
pub record Feature : Type 0 where
  pub name : List ℕ
  pub on : Bool

-- a feature's name, as the key that features are ordered by
abbrev pub by_name : Feature → List ℕ
by_name f = f.name

-- "The meaning is kind, the four triple parts, processor, and the set of stated features with their signs."
-- The features stand in byte order of their names, so that equal sets are equal lists. No environment and no processor are empty.
pub record Meaning : Type 0 where
  pub kind : List ℕ
  pub arch : List ℕ
  pub vendor : List ℕ
  pub system : List ℕ
  pub environment : List ℕ
  pub processor : List ℕ
  pub features : List Feature

-- ---- reading a text

-- "An ID is cut at its first `:`. The part before it is cut at every `-` into fields."
unfoldable pub fields_of : List ℕ → List (List ℕ)
fields_of x = split_on (code "-") (get_or (split_on (code ":") x) 0 [])

-- "Each piece after a `:`"
unfoldable pub pieces_of : List ℕ → List (List ℕ)
pieces_of x = drop 1 (split_on (code ":") x)

-- "begins with `gfx` or `sm_`"
unfoldable pub names_processor : List ℕ → Bool
names_processor f = same (take 3 f) (bytes "gfx") || same (take 3 f) (bytes "sm_")

-- "if the fifth field begins with `gfx` or `sm_`, the processor starts there"
unfoldable pub fifth_is_processor : List (List ℕ) → Bool
fifth_is_processor fs = names_processor (get_or fs 4 [])

-- "is a feature: a name .., then `+` (on) or `-` (off)": the last byte is the sign
unfoldable pub feature : List ℕ → Feature
feature p = record { name = take (length p - 1) p; on = eqb (get_or p (length p - 1) 0) (code "+") }

-- the meaning of a text with these fields and pieces: kind, arch, vendor, system; then "if the fifth field begins with `gfx` or `sm_`, the processor
-- starts there and runs, hyphens included, to the first `:` or the end, and the environment is empty. Otherwise the sixth field starts it and it runs
-- on likewise." Fields that are not there are empty, and "an empty sixth means no processor". The features stand "in byte order of their names, a
-- shorter name before a longer one that begins with it".
unfoldable pub meaning_of : List (List ℕ) → List (List ℕ) → Meaning
meaning_of fs ps = record {
  kind = get_or fs 0 [];
  arch = get_or fs 1 [];
  vendor = get_or fs 2 [];
  system = get_or fs 3 [];
  environment = cond (fifth_is_processor fs) [] (get_or fs 4 []);
  processor = join_with (code "-") (cond (fifth_is_processor fs) (drop 4 fs) (drop 5 fs));
  features = sort_by by_name (map feature ps);
}

unfoldable pub meaning : List ℕ → Meaning
meaning x = meaning_of (fields_of x) (pieces_of x)

-- ---- writing the canonical form

unfoldable pub sign : Bool → ℕ
sign true = code "+"
sign false = code "-"

unfoldable pub piece : Feature → List ℕ
piece f = f.name ++ sign f.on ∷ []

unfoldable pub six_fields : Meaning → List (List ℕ)
six_fields m = m.kind ∷ m.arch ∷ m.vendor ∷ m.system ∷ m.environment ∷ m.processor ∷ []

-- "The canonical form always writes six fields, then the features"
unfoldable pub canonical_of : Meaning → List ℕ
canonical_of m = join_with (code ":") (join_with (code "-") (six_fields m) ∷ map piece m.features)

-- ---- the rules

abbrev pub between : ℕ → ℕ → ℕ → Bool
between a b x = leb a x && leb x b

-- "one or more of a-z, 0-9, `_`"
unfoldable pub name_byte : ℕ → Bool
name_byte x = between (code "a") (code "z") x || between (code "0") (code "9") x || eqb x (code "_")

-- "Fields after the kind use ASCII letters, digits, `_` and `.`."
unfoldable pub field_byte : ℕ → Bool
field_byte x = name_byte x || between (code "A") (code "Z") x || eqb x (code ".")

-- the bytes of a processor: those of fields, and the hyphens between them
unfoldable pub processor_byte : ℕ → Bool
processor_byte x = field_byte x || eqb x (code "-")

-- "A processor neither begins nor ends with a hyphen."
unfoldable pub processor_shaped : List ℕ → Bool
processor_shaped p = every processor_byte p && not (eqb (get_or p 0 0) (code "-")) && not (eqb (get_or p (length p - 1) 0) (code "-"))

-- "Kind is exactly `host`, `hip`, `hipv4` or `openmp`."
unfoldable pub kinds : List (List ℕ)
kinds = bytes "host" ∷ bytes "hip" ∷ bytes "hipv4" ∷ bytes "openmp" ∷ []

-- the piece ends in a sign
unfoldable pub signed : List ℕ → Bool
signed p = let s = get_or p (length p - 1) 0 in eqb s (code "+") || eqb s (code "-")

unfoldable pub named : Feature → Bool
named f = not (empty f.name) && every name_byte f.name

-- what the rules ask of the text: "Entry ID: 1 to 256 bytes"; at least four fields ("Seven or more fields are no longer refused for their number");
-- each piece has a sign
unfoldable pub shaped : List ℕ → Bool
shaped x =
    leb 1 (length x) && leb (length x) 256
    && leb 4 (length (fields_of x))
    && every signed (pieces_of x)

-- what the rules ask of the meaning: the kind; "Arch, vendor and system are not empty"; the bytes of fields, of the processor and of names; the
-- processor's two ends; "A name stated twice is refused": in order, each name stands before the next (the theorem `stated_once` has it on the text);
-- "Features in an ID: 8"; "refused .. so is a feature without a processor"; "its canonical form at most 256" bytes
unfoldable pub proper : Meaning → Bool
proper m =
    any (same m.kind) kinds
    && not (empty m.arch) && not (empty m.vendor) && not (empty m.system)
    && every (every field_byte) (m.arch ∷ m.vendor ∷ m.system ∷ m.environment ∷ []) && processor_shaped m.processor
    && every named m.features && rising_by by_name m.features && leb (length m.features) 8
    && (not (empty m.processor) || empty m.features)
    && leb (length (canonical_of m)) 256

-- the text is an entry ID. "A device name is written as an entry ID": the same rules
unfoldable pub valid : List ℕ → Bool
valid x = shaped x && proper (meaning x)

-- the canonical form of a text; empty where the text breaks the rules
unfoldable pub canon : List ℕ → List ℕ
canon x = cond (valid x) (canonical_of (meaning x)) []
