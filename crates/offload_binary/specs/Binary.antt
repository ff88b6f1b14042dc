-- An offload binary: its bytes (RULES 12) and the refusals 13 to 17 (RULES 3.5). Definitions only.
-- b is the bytes from the binary's first byte on, and o = own b the binary's own bytes.
-- "Offsets inside a binary count from its own first byte, key and text offsets included": offsets are places in o.
use Rattle.std.specs.Prelude.{ℕ, zero, suc, ◌+◌, ◌*◌, Bool, not, ◌&&◌, ◌||◌, List, [], ◌∷◌, length, get_or, take, drop, ltb, eqb}
use Rattle.wire.specs.Lists.{tab}
use Rattle.wire.specs.Word.{word}
use Rattle.wire.specs.Bytes.{same}
use Rattle.wire.specs.First.{first, any_below}
use Rattle.wire.specs.Stop.{Stop, ◌⨾◌, stop_if, earlier}
use Rattle.offload_binary.specs.Lists.{slots}
use Rattle.offload_binary.specs.declared.Part.{Part}
use Rattle.offload_binary.specs.declared.StringPair.{StringPair}
use Rattle.offload_binary.specs.declared.Entry.{Entry}
use Rattle.offload_binary.specs.declared.Binary.{Binary}
use Rattle.offload_binary.specs.declared.Answer.{Answer}

-- ---- parts and strings

-- the bytes that a part names
unfoldable pub bytes_at : List ℕ → Part → List ℕ
bytes_at s p = take p.len (drop p.start s)

-- the part of no bytes, and the pair of such parts
abbrev pub no_part : Part
no_part = record { start = 0; len = 0 }

abbrev pub no_pair : StringPair
no_pair = record { key = no_part; text = no_part }

-- how many bytes stand before the first zero byte: all, where there is none
unfoldable pub run : List ℕ → ℕ
run l = first (length l) (λ i. eqb (get_or l i 0) 0)

-- there is a zero byte
unfoldable pub ended : List ℕ → Bool
ended l = ltb (run l) (length l)

-- ---- "Header, 32 bytes: bytes 10 FF 10 AD, 4-byte version 1, 8-byte size, entry offset, entry size."

abbrev pub magic : List ℕ
magic = 16 ∷ 255 ∷ 16 ∷ 173 ∷ []

unfoldable pub size_of : List ℕ → ℕ
size_of b = word 8 b 8

unfoldable pub entry_at : List ℕ → ℕ
entry_at b = word 8 b 16

unfoldable pub own : List ℕ → List ℕ
own b = take (size_of b) b

-- ---- "Entry, 40 bytes: 2-byte image kind (0 to 5), 2-byte offload kind (0 to 3), 4-byte flags (any), then 8 bytes each: string table offset, number of strings, image offset, image size."

unfoldable pub entry_of : List ℕ → ℕ → Entry
entry_of o at = record {
  image_kind = word 2 o at;
  offload_kind = word 2 o (at + 2);
  flags = word 4 o (at + 4);
  table = word 8 o (at + 8);
  count = word 8 o (at + 16);
  image = record { start = word 8 o (at + 24); len = word 8 o (at + 32) };
}

-- ---- "String pair, 16 bytes: key offset, text offset. Each points to bytes ended by a zero byte before the binary's end."

unfoldable pub key_at : List ℕ → ℕ → ℕ → ℕ
key_at o table i = word 8 o (table + 16 * i)

unfoldable pub text_at : List ℕ → ℕ → ℕ → ℕ
text_at o table i = word 8 o (table + 16 * i + 8)

-- the string at an offset, as a part of bytes in which o starts at `from`
unfoldable pub string_at : ℕ → List ℕ → ℕ → Part
string_at from o at = record { start = from + at; len = run (drop at o) }

unfoldable pub pair : ℕ → List ℕ → ℕ → ℕ → StringPair
pair from o table i = record { key = string_at from o (key_at o table i); text = string_at from o (text_at o table i) }

unfoldable pub key : List ℕ → ℕ → ℕ → List ℕ
key o table i = bytes_at o (string_at 0 o (key_at o table i))

-- ---- 13 to 17

-- 13 HEAD: "under 32 bytes left, wrong first four, version not 1"
unfoldable pub bad_head : List ℕ → Bool
bad_head b = ltb (length b) 32 || not (same (take 4 b) magic) || not (eqb (word 4 b 4) 1)

-- 14 SPAN: "size under 72 or above what is left; entry size not 40; entry offset under 32, or its 40 bytes pass the size"
unfoldable pub bad_span : List ℕ → Bool
bad_span b =
    ltb (size_of b) 72 || ltb (length b) (size_of b)
    || not (eqb (word 8 b 24) 40)
    || ltb (entry_at b) 32 || ltb (size_of b) (entry_at b + 40)

-- 15 KIND: "image kind above 5 or offload kind above 3"
unfoldable pub bad_kinds : ℕ → ℕ → Bool
bad_kinds image_kind offload_kind = ltb 5 image_kind || ltb 3 offload_kind

-- 16 STRINGS: "more than 32; with at least one, pairs not between 32 and the size"
unfoldable pub bad_table : ℕ → ℕ → ℕ → Bool
bad_table size table count = ltb 32 count || ltb 0 count && (ltb table 32 || ltb size (table + 16 * count))

-- "an offset under 32 or with no zero byte from it to the end; over 256 bytes"
unfoldable pub bad_string : List ℕ → ℕ → Bool
bad_string o at = ltb at 32 || not (ended (drop at o)) || ltb 256 (run (drop at o))

-- the same of pair i's key and text; "empty key"
unfoldable pub bad_pair : List ℕ → ℕ → ℕ → Bool
bad_pair o table i = bad_string o (key_at o table i) || bad_string o (text_at o table i) || eqb (run (drop (key_at o table i) o)) 0

-- all of 16; "equal keys"
unfoldable pub bad_strings : List ℕ → ℕ → ℕ → Bool
bad_strings o table count = bad_table (length o) table count || any_below count (bad_pair o table) || any_below count (earlier same (key o table))

-- 17 IMAGE: "image offset under 32, or offset + size above the binary's size"
unfoldable pub bad_image : ℕ → Part → Bool
bad_image size image = ltb image.start 32 || ltb size (image.start + image.len)

-- 15 to 17, of a binary's own bytes and its entry
unfoldable pub body_stop : List ℕ → Entry → Stop
body_stop o e =
    stop_if 15 (bad_kinds e.image_kind e.offload_kind)
    ⨾ stop_if 16 (bad_strings o e.table e.count)
    ⨾ stop_if 17 (bad_image (length o) e.image)

-- 13 to 17, of the bytes from a binary's first byte on
unfoldable pub binary_stop : List ℕ → Stop
binary_stop b =
    stop_if 13 (bad_head b)
    ⨾ stop_if 14 (bad_span b)
    ⨾ body_stop (own b) (entry_of (own b) (entry_at b))

-- ---- keys of pairs that name parts of s, as a reader and a writer hold them

-- the key of pair i
unfoldable pub key_in : List ℕ → List StringPair → ℕ → List ℕ
key_in s pairs i = bytes_at s (get_or pairs i no_pair).key

-- "equal keys"
unfoldable pub equal_keys : List ℕ → List StringPair → Bool
equal_keys s pairs = any_below (length pairs) (earlier same (key_in s pairs))

-- ---- what a binary hands back: "first byte, size, kinds, flags, place and length of the image and of each key and text, places counted from the strip's first byte"

-- 0 in every number
abbrev pub no_binary : Binary
no_binary = record { start = 0; size = 0; image_kind = 0; offload_kind = 0; flags = 0; image = no_part; count = 0; pairs = slots 32 no_pair [] }

-- of a binary's own bytes and its entry, the binary's first byte at `from`
unfoldable pub hands_back : ℕ → List ℕ → Entry → Binary
hands_back from o e = record {
  start = from;
  size = length o;
  image_kind = e.image_kind;
  offload_kind = e.offload_kind;
  flags = e.flags;
  image = record { start = from + e.image.start; len = e.image.len };
  count = e.count;
  pairs = slots 32 no_pair (tab e.count (pair from o e.table));
}

-- of the bytes from the binary's first byte on
unfoldable pub binary : ℕ → List ℕ → Binary
binary from b = hands_back from (own b) (entry_of (own b) (entry_at b))

-- ---- the answer: numbers and places

-- OK: "An accepted call has place 0"
abbrev pub handed : Binary → Answer
handed b = record { number = 0; place = 0; binary = b }

-- "A refusal returns its number and a place .., has 0 in every other returned number"
abbrev pub refused : ℕ → ℕ → Answer
refused k place = record { number = k; place = place; binary = no_binary }

-- the answer by a number: 0, or what refuses
abbrev pub answer_by : ℕ → ℕ → Binary → Answer
answer_by zero place b = handed b
answer_by (suc k) place b = refused (suc k) place

-- 13 to 17 of the binary at a position
unfoldable pub binary_at : List ℕ → ℕ → Answer
binary_at s position = answer_by (binary_stop (drop position s)).number position (binary position (drop position s))
