-- What a binary holds, and the bytes that the binary writer writes for it. Definitions only.
use Rattle.std.specs.Prelude.{ℕ, ◌+◌, ◌*◌, ◌-◌, ◌/◌, Bool, ◌||◌, List, [], ◌∷◌, ◌++◌, map, length, get_or, take, replicate, ltb}
use Rattle.wire.specs.Limit.{limit}
use Rattle.wire.specs.Word.{bytes_of}
use Rattle.wire.specs.Bytes.{same, empty}
use Rattle.wire.specs.First.{any_below}
use Rattle.wire.specs.Stop.{earlier}
use Rattle.offload_binary.specs.Binary.{magic, bytes_at, ended}
use Rattle.offload_binary.specs.declared.StringPair.{StringPair}
use Rattle.offload_binary.specs.declared.Binary.{Binary}

-- ---- what a binary holds

pub record KeyText : Type 0 where
  pub key : List ℕ
  pub text : List ℕ

pub record Contents : Type 0 where
  pub image_kind : ℕ
  pub offload_kind : ℕ
  pub flags : ℕ
  pub image : List ℕ
  pub strings : List KeyText

-- the bytes that a pair's parts name
unfoldable pub key_text : List ℕ → StringPair → KeyText
key_text s p = record { key = bytes_at s p.key; text = bytes_at s p.text }

-- what a binary that was handed back holds, in the bytes that it was read from
unfoldable pub contents : List ℕ → Binary → Contents
contents s b = record {
  image_kind = b.image_kind;
  offload_kind = b.offload_kind;
  flags = b.flags;
  image = bytes_at s b.image;
  strings = map (key_text s) (take b.count b.pairs);
}

-- ---- its bytes

-- numbers of given widths, one after another
pub record Field : Type 0 where
  pub width : ℕ
  pub value : ℕ

infix 80 ◌∶◌
abbrev pub ◌∶◌ : ℕ → ℕ → Field
w ∶ v = record { width = w; value = v }

unfoldable pub field_bytes : List Field → List ℕ
field_bytes [] = []
field_bytes (f ∷ fs) = bytes_of f.width f.value ++ field_bytes fs

-- "each key and text in the given order"
unfoldable pub texts : List KeyText → List (List ℕ)
texts [] = []
texts (t ∷ ts) = t.key ∷ t.text ∷ texts ts

-- "with its zero"
unfoldable pub string_bytes : List (List ℕ) → List ℕ
string_bytes [] = []
string_bytes (x ∷ xs) = x ++ (0 ∷ string_bytes xs)

-- "key offset, text offset": where each of these starts, the first at `from`
unfoldable pub offsets : ℕ → List (List ℕ) → List Field
offsets from [] = []
offsets from (x ∷ xs) = 8 ∶ from ∷ offsets (from + length x + 1) xs

-- "to a multiple of 8"
unfoldable pub up8 : ℕ → ℕ
up8 n = (n + 7) / 8 * 8

-- zero bytes from one place to another
unfoldable pub zeros : ℕ → ℕ → List ℕ
zeros from to = replicate (to - from) 0

-- "the entry at 32, string pairs at 72": where the strings start and end, where the image starts and ends, and the size
unfoldable pub strings_start : List KeyText → ℕ
strings_start ts = 72 + 16 * length ts

unfoldable pub strings_end : List KeyText → ℕ
strings_end ts = strings_start ts + length (string_bytes (texts ts))

unfoldable pub image_start : Contents → ℕ
image_start g = up8 (strings_end g.strings)

unfoldable pub image_end : Contents → ℕ
image_end g = image_start g + length g.image

unfoldable pub binary_size : Contents → ℕ
binary_size g = up8 (image_end g)

-- the header after its first four bytes, and the entry ("the field says 72 with no pairs too")
unfoldable pub head_fields : Contents → List Field
head_fields g =
    4 ∶ 1 ∷ 8 ∶ binary_size g ∷ 8 ∶ 32 ∷ 8 ∶ 40
    ∷ 2 ∶ g.image_kind ∷ 2 ∶ g.offload_kind ∷ 4 ∶ g.flags
    ∷ 8 ∶ 72 ∷ 8 ∶ length g.strings ∷ 8 ∶ image_start g ∷ 8 ∶ length g.image ∷ []

-- "It puts the entry at 32, string pairs at 72 .., then each key and text in the given order with its zero, zero bytes to a multiple of 8, the image, and zero bytes to a multiple of 8."
unfoldable pub written : Contents → List ℕ
written g =
    magic ++ (field_bytes (head_fields g)
    ++ (field_bytes (offsets (strings_start g.strings) (texts g.strings))
    ++ (string_bytes (texts g.strings)
    ++ (zeros (strings_end g.strings) (image_start g)
    ++ (g.image
    ++ zeros (image_end g) (binary_size g))))))

-- ---- what the binary writer refuses of what a binary is to hold, beside 15

abbrev pub no_key_text : KeyText
no_key_text = record { key = []; text = [] }

unfoldable pub key_of : List KeyText → ℕ → List ℕ
key_of ts i = (get_or ts i no_key_text).key

-- "lengths", "a zero byte inside a string"
unfoldable pub bad_text : List ℕ → Bool
bad_text x = ltb 256 (length x) || ended x

-- 16: "counts, .. lengths, empty or equal keys, a zero byte inside a string"
unfoldable pub bad_key_texts : List KeyText → Bool
bad_key_texts ts =
    ltb 32 (length ts)
    || any_below (length (texts ts)) (λ j. bad_text (get_or (texts ts) j []))
    || any_below (length ts) (λ i. empty (key_of ts i))
    || any_below (length ts) (earlier same (key_of ts))

-- 11 BIG: "the output would be above the size limit"
unfoldable pub too_big : Contents → Bool
too_big g = ltb limit (binary_size g)
