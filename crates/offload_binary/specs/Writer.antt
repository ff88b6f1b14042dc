-- The binary writer: what it is given, what it refuses, what it returns and what it writes. Definitions only.
use Rattle.std.specs.Prelude.{ℕ, zero, suc, ◌+◌, Bool, ◌||◌, List, ◌++◌, map, length, get_or, drop, ltb, eqb}
use Rattle.wire.specs.Bytes.{same}
use Rattle.wire.specs.First.{any_below}
use Rattle.wire.specs.Stop.{Stop, ◌⨾◌, stop_if, earlier}
use Rattle.offload_binary.specs.Binary.{bytes_at, ended, bad_kinds, no_pair, key_in}
use Rattle.offload_binary.specs.Contents.{Contents, key_text, binary_size, written, too_big}
use Rattle.offload_binary.specs.declared.Part.{Part}
use Rattle.offload_binary.specs.declared.StringPair.{StringPair}
use Rattle.offload_binary.specs.declared.Tags.{Tags}
use Rattle.offload_binary.specs.declared.Written.{Written}

-- ---- 16: "counts, a part outside its buffer, lengths, empty or equal keys, a zero byte inside a string"

-- "a part outside its buffer, lengths, .. a zero byte inside a string"
unfoldable pub bad_part : List ℕ → Part → Bool
bad_part buf p = ltb (length buf) (p.start + p.len) || ltb 256 p.len || ended (bytes_at buf p)

-- the same of a pair's parts; "empty" key
unfoldable pub bad_pair : List ℕ → StringPair → Bool
bad_pair buf p = bad_part buf p.key || bad_part buf p.text || eqb p.key.len 0

-- all of 16: "counts", "equal keys"
unfoldable pub bad_pairs : List ℕ → List StringPair → Bool
bad_pairs buf pairs =
    ltb 32 (length pairs)
    || any_below (length pairs) (λ i. bad_pair buf (get_or pairs i no_pair))
    || any_below (length pairs) (earlier same (key_in buf pairs))

-- ---- the call: "The binary writer is given the kinds, flags, an image and a lent list naming each pair's parts of one string buffer."

module _ (tags : Tags) (image : List ℕ) (pairs : List StringPair) (buf : List ℕ) where
  unfoldable pub given : Contents
  given = record { image_kind = tags.image_kind; offload_kind = tags.offload_kind; flags = tags.flags; image = image; strings = map (key_text buf) pairs }

  -- "The binary writer checks 15, 16 .., 11, 12, all with place 0." 12 ROOM: "the lent output is shorter than the output".
  unfoldable pub write_stop : ℕ → Stop
  write_stop room =
      stop_if 15 (bad_kinds tags.image_kind tags.offload_kind)
      ⨾ stop_if 16 (bad_pairs buf pairs)
      ⨾ stop_if 11 (too_big given)
      ⨾ stop_if 12 (ltb room (binary_size given))

-- ---- what comes back: the answer, and the lent output

pub record Output : Type 0 where
  pub answer : Written
  pub out : List ℕ

-- "A refusal .. has 0 in every other returned number, and writes no output"; accepted: place 0, and "a call that writes the length written"; bytes beyond that length stay as they were
abbrev pub output_by : ℕ → List ℕ → List ℕ → Output
output_by zero bytes out = record { answer = record { number = 0; place = 0; len = length bytes }; out = bytes ++ drop (length bytes) out }
output_by (suc k) bytes out = record { answer = record { number = suc k; place = 0; len = 0 }; out = out }

unfoldable pub write : Tags → List ℕ → List StringPair → List ℕ → List ℕ → Output
write tags image pairs buf out = output_by (write_stop tags image pairs buf (length out)).number (written (given tags image pairs buf)) out
