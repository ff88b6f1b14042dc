-- The examples that are marked * in RULES B, B.1 to B.10, B.16 and B.17: one table under one claim. Statements only.
use Rattle.std.specs.Prelude.{ℕ, ◌+◌, ◌≡◌, true, false, List, [], ◌∷◌, ◌++◌, length, replicate}
use Rattle.wire.specs.Bytes.{bytes, same}
use Rattle.wire.specs.Word.{bytes_of}
use Rattle.entry_id.specs.Meaning.{meaning, canon}
use Rattle.entry_id.specs.Compare.{compatible}
use Rattle.entry_id.specs.Rules.{id_rules}
use Rattle.bundle.specs.Table.{magic, table_end}
use Rattle.bundle.specs.Check.{check}
use Rattle.bundle.specs.Pick.{pick}
use Rattle.bundle.specs.Layout.{bundle}
use Rattle.bundle.specs.EntryAt.{entry_at, unlocated}
use Rattle.bundle.specs.Normal.{normal, normal_length, normalise}
use Rattle.offload_binary.specs.Binary.{refused, binary_at}
use Rattle.offload_binary.specs.Contents.{Contents, written}
use Rattle.offload_binary.specs.Reader.{answer}

-- ---- the bytes that the examples speak of

abbrev pub host : List ℕ
host = bytes "host-x86_64-unknown-linux-gnu-"

abbrev pub gfx906 : List ℕ
gfx906 = bytes "hip-amdgcn-amd-amdhsa-gfx906"

-- the same target with the other spelling of its kind, and with another kind
abbrev pub hipv4 : List ℕ
hipv4 = bytes "hipv4-amdgcn-amd-amdhsa-gfx906"

abbrev pub openmp : List ℕ
openmp = bytes "openmp-amdgcn-amd-amdhsa-gfx906"

-- with the feature xnack, on and off
abbrev pub on : List ℕ → List ℕ
on x = x ++ bytes ":xnack+"

abbrev pub off : List ℕ → List ℕ
off x = x ++ bytes ":xnack-"

-- "Magic and eight zero bytes"
abbrev pub no_entries : List ℕ
no_entries = magic ++ replicate 8 0

-- a bundle with one entry `host`, its image of this size at 86, and these bytes after the table
abbrev pub one_host : ℕ → List ℕ → List ℕ
one_host size body = bundle (record { offset = 86; size = size; id = host } ∷ []) body

-- two entries with empty images at the end of the container, which is the end of the table
abbrev pub two_at : ℕ → List ℕ → List ℕ → List ℕ
two_at end x y = bundle (record { offset = end; size = 0; id = x } ∷ record { offset = end; size = 0; id = y } ∷ []) []

abbrev pub two : List ℕ → List ℕ → List ℕ
two x y = two_at (80 + length x + length y) x y

-- two entries with images of `m` and `n` bytes, which start `a` and `b` bytes after the table; eight bytes follow it
abbrev pub images : List ℕ → List ℕ → ℕ → ℕ → ℕ → ℕ → List ℕ
images x y a m b n =
    let end = 80 + length x + length y in
    bundle (record { offset = end + a; size = m; id = x } ∷ record { offset = end + b; size = n; id = y } ∷ []) (bytes "8 bytes.")

-- the same with IDs that keep the rules
abbrev pub spans : ℕ → ℕ → ℕ → ℕ → List ℕ
spans = images (on gfx906) (off gfx906)

-- one entry with an image of five bytes
abbrev pub one : List ℕ → List ℕ
one x = bundle (record { offset = 56 + length x; size = 5; id = x } ∷ []) (bytes "image")

abbrev pub bare : Contents
bare = record { image_kind = 0; offload_kind = 0; flags = 0; image = []; strings = [] }

abbrev pub with_arch : Contents
with_arch = record { image_kind = 0; offload_kind = 0; flags = 0; image = 1 ∷ 2 ∷ 3 ∷ []; strings = record { key = bytes "arch"; text = bytes "sm_70" } ∷ [] }

-- ---- the table

pub record Examples : Type 0 where
  -- "Empty input: MAGIC as a bundle, END as a strip."
  pub empty_bundle : check id_rules [] ≡ record { number = 2; place = 0; count = 0 }
  pub empty_binaries : answer [] 0 ≡ refused 19 0
  -- "Magic and eight zero bytes: accepted, no entries, its own normal form, 32 bytes."
  pub none_accepted : check id_rules no_entries ≡ record { number = 0; place = 0; count = 0 }
  pub none_normal : normal id_rules no_entries ≡ no_entries
  pub none_length : length no_entries ≡ 32
  -- "`host-x86_64-unknown-linux-gnu` has canonical form `host-x86_64-unknown-linux-gnu-`, 30 bytes."
  pub host_form : canon (bytes "host-x86_64-unknown-linux-gnu") ≡ host
  pub host_length : length host ≡ 30
  -- "A bundle of that form with a 5-byte image has table end 86 and normal length 91: magic; count 1; 86; 5; 30; the ID; the five bytes."
  pub one_end : table_end (one_host 5 (bytes "image")) ≡ 86
  pub one_length : normal_length id_rules (one_host 5 (bytes "image")) ≡ 91
  pub one_normal : normal id_rules (one_host 5 (bytes "image")) ≡ magic ++ bytes_of 8 1 ++ bytes_of 8 86 ++ bytes_of 8 5 ++ bytes_of 8 30 ++ host ++ bytes "image"
  -- "`hip-amdgcn-amd-amdhsa-gfx906:xnack+:sramecc-` becomes `hip-amdgcn-amd-amdhsa--gfx906:sramecc-:xnack+`, 45 bytes."
  pub hip_form : canon (bytes "hip-amdgcn-amd-amdhsa-gfx906:xnack+:sramecc-") ≡ bytes "hip-amdgcn-amd-amdhsa--gfx906:sramecc-:xnack+"
  pub hip_length : length (bytes "hip-amdgcn-amd-amdhsa--gfx906:sramecc-:xnack+") ≡ 45
  -- "Entry `gfx906`, device `gfx906:sramecc+:xnack-` (same kind and triple): compatible."
  pub any_sign : compatible (meaning gfx906) (meaning (gfx906 ++ bytes ":sramecc+:xnack-")) ≡ true
  -- "Entry `gfx906:xnack-`, device `gfx906`: not compatible."
  pub unstated : compatible (meaning (gfx906 ++ bytes ":xnack-")) (meaning gfx906) ≡ false
  -- "Entries `gfx906` and `gfx906:xnack+` together: MIXED at the second."
  pub other_names : check id_rules (two_at 143 gfx906 (gfx906 ++ bytes ":xnack+")) ≡ record { number = 8; place = 1; count = 0 }
  -- "The two `gfx906` spellings of the fourth piece together: TWICE."
  pub two_spellings : check id_rules (two_at 169 (bytes "hip-amdgcn-amd-amdhsa-gfx906:xnack+:sramecc-") (bytes "hip-amdgcn-amd-amdhsa--gfx906:sramecc-:xnack+")) ≡ record { number = 7; place = 1; count = 0 }
  -- "a bundle with both spellings of one entry is refused by 7": at the second, whichever comes first
  pub kinds_twice : check id_rules (two gfx906 hipv4) ≡ record { number = 7; place = 1; count = 0 }
  pub kinds_twice_turned : check id_rules (two hipv4 gfx906) ≡ record { number = 7; place = 1; count = 0 }
  -- TWICE and MIXED "treat them as equal": other feature names across the spellings are MIXED, the same names with other signs are neither
  pub kinds_mixed : check id_rules (two gfx906 (on hipv4)) ≡ record { number = 8; place = 1; count = 0 }
  pub kinds_mixed_turned : check id_rules (two (on hipv4) gfx906) ≡ record { number = 8; place = 1; count = 0 }
  pub kinds_signs : check id_rules (two (on gfx906) (off hipv4)) ≡ record { number = 0; place = 0; count = 2 }
  -- "compatibility treats them as equal": a device name with either spelling picks an entry with the other
  pub picks_hip : pick id_rules (two (on gfx906) (off hipv4)) (on hipv4) ≡ record { number = 0; place = 0; index = 0; position = 152; size = 0 }
  pub picks_hipv4 : pick id_rules (two openmp hipv4) gfx906 ≡ record { number = 0; place = 0; index = 1; position = 141; size = 0 }
  -- any other two kinds differ
  pub kinds_apart : check id_rules (two openmp hipv4) ≡ record { number = 0; place = 0; count = 2 }
  pub picks_none : pick id_rules (one openmp) hipv4 ≡ record { number = 10; place = 0; index = 0; position = 0; size = 0 }
  -- "demand 3 still counts the two spellings as different entries": bundles that differ in the spelling alone have different normal forms
  pub normals_apart : same (normal id_rules (one gfx906)) (normal id_rules (one hipv4)) ≡ false
  -- "Offset equal to the length with size 0: accepted. Size 1 there: RANGE."
  pub at_end : check id_rules (one_host 0 []) ≡ record { number = 0; place = 0; count = 1 }
  pub past_end : check id_rules (one_host 1 []) ≡ record { number = 6; place = 0; count = 0 }
  -- "two images of size above 0 are either the same span or share no byte": the same span twice; images that touch, in either order
  pub span_twice : check id_rules (spans 2 4 2 4) ≡ record { number = 0; place = 0; count = 2 }
  pub touching : check id_rules (spans 0 4 4 4) ≡ record { number = 0; place = 0; count = 2 }
  pub touching_turned : check id_rules (spans 4 4 0 4) ≡ record { number = 0; place = 0; count = 2 }
  -- an empty image inside another
  pub empty_inside : check id_rules (spans 0 8 4 0) ≡ record { number = 0; place = 0; count = 2 }
  pub empty_first : check id_rules (spans 4 0 0 8) ≡ record { number = 0; place = 0; count = 2 }
  -- "the lowest index whose image shares a byte with an earlier one's without being the same span": one byte at either end, the same start, the same end
  pub last_byte : check id_rules (spans 0 4 3 4) ≡ record { number = 21; place = 1; count = 0 }
  pub first_byte : check id_rules (spans 3 4 0 4) ≡ record { number = 21; place = 1; count = 0 }
  pub same_start : check id_rules (spans 0 4 0 5) ≡ record { number = 21; place = 1; count = 0 }
  pub same_end : check id_rules (spans 0 5 1 4) ≡ record { number = 21; place = 1; count = 0 }
  -- "(lying wholly inside it or around it counts)"
  pub inside : check id_rules (spans 0 8 2 3) ≡ record { number = 21; place = 1; count = 0 }
  pub around : check id_rules (spans 2 3 0 8) ≡ record { number = 21; place = 1; count = 0 }
  -- "after 6 .. and before 7"; 8 comes later still
  pub range_first : check id_rules (spans 0 4 3 9) ≡ record { number = 6; place = 1; count = 0 }
  pub twice_later : check id_rules (images gfx906 gfx906 0 4 3 4) ≡ record { number = 21; place = 1; count = 0 }
  pub mixed_later : check id_rules (images gfx906 (on gfx906) 0 4 3 4) ≡ record { number = 21; place = 1; count = 0 }
  -- "It joins every list that says 1 to 8"
  pub overlap_picked : pick id_rules (spans 0 4 3 4) (on gfx906) ≡ record { number = 21; place = 1; index = 0; position = 0; size = 0 }
  pub overlap_entry : entry_at id_rules (spans 0 4 3 4) 0 ≡ unlocated 21 1
  pub overlap_normalised : normalise id_rules (spans 0 4 3 4) 1000 ≡ record { number = 21; place = 1; length = 0 }
  -- "Binary with no strings and no image: 72 bytes. With `arch`/`sm_70` and a 3-byte image: image at 104, size 112."
  pub bare_size : (binary_at (written bare) 0).binary.size ≡ 72
  pub bare_length : length (written bare) ≡ 72
  pub arch_image : (binary_at (written with_arch) 0).binary.image ≡ record { start = 104; len = 3 }
  pub arch_size : (binary_at (written with_arch) 0).binary.size ≡ 112
  pub arch_length : length (written with_arch) ≡ 112
