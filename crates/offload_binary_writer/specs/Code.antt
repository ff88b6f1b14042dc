-- What the private functions of the writer ensure. No public promise rests on these. Definitions only.
use Rattle.std.specs.Prelude.{ℕ, ◌+◌, ◌*◌, ◌-◌, ◌%◌, ◌≡◌, ◌≤◌, List, [], ◌∷◌, ◌++◌, map, length, replicate, sum_by}
use Rattle.wire.specs.Word.{bytes_of}
use Rattle.wire.specs.Bytes.{overwrite}
use Rattle.offload_binary.specs.Contents.{key_text, texts, field_bytes, offsets, string_bytes, up8}
use Rattle.offload_binary.specs.declared.StringPair.{StringPair}
use Rattle.offload_binary.specs.declared.Tags.{Tags}
use Rattle.offload_binary_writer.specs.declared.Layout.{Layout}

-- a pair whose strings have at most 256 bytes
abbrev pub IsShort : StringPair → Type 0
IsShort p = (p.key.len ≤ 256) × (p.text.len ≤ 256)

-- the bytes of a pair's strings, with their zeros
abbrev pub pair_len : StringPair → ℕ
pair_len p = p.key.len + p.text.len + 2

-- the keys and texts of pairs, one after another
abbrev pub strings : List ℕ → List StringPair → List (List ℕ)
strings buf pairs = texts (map (key_text buf) pairs)

-- `out` with the offsets of strings at 72, and the strings from `first` on
abbrev pub laid : ℕ → List (List ℕ) → List ℕ → List ℕ
laid first xs out = overwrite (overwrite out 72 (field_bytes (offsets first xs))) first (string_bytes xs)

-- where the parts of a binary with these pairs and an image of `len` bytes stand
pub record LayoutIs (pairs : List StringPair) (len : ℕ) (at : Layout) : Type 0 where
  pub strings_is : at.strings ≡ 72 + 16 * length pairs
  pub end_is : at.end ≡ at.strings + sum_by pair_len pairs
  pub image_is : at.image ≡ up8 at.end
  pub stop_is : at.stop ≡ at.image + len
  pub size_is : at.size ≡ up8 at.stop

-- words of 8 bytes, one after another
unfoldable pub word_bytes : List ℕ → List ℕ
word_bytes [] = []
word_bytes (w ∷ ws) = bytes_of 8 w ++ word_bytes ws

-- the kinds and the flags as one word
unfoldable pub tags_word : Tags → ℕ
tags_word tags = tags.image_kind % 65536 + 65536 * (tags.offload_kind % 65536 + 65536 * tags.flags)

-- header and entry; the first word is the magic number and the version
unfoldable pub head_words : Tags → ℕ → ℕ → ℕ → ℕ → List ℕ
head_words tags count image len size = 7198539536 ∷ size ∷ 32 ∷ 40 ∷ tags_word tags ∷ 72 ∷ count ∷ image ∷ len ∷ []

-- the image and the zero bytes around it
unfoldable pub image_bytes : Layout → List ℕ → List ℕ
image_bytes at image = replicate (at.image - at.end) 0 ++ (image ++ replicate (at.size - at.stop) 0)
