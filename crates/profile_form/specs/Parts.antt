-- Where the parts of a canonical form stand, as the code finds them: for private functions. Definitions only.
use Rattle.std.specs.Prelude.{ℕ, ◌+◌, ◌%◌, ◌^◌, ◌<◌, ◌≤◌, ◌≡◌, Bool, true, cond, List, ◌++◌, map, T, length, take, drop, Option}
use Prim.Native.Char.{code}
use Rattle.wire.specs.Lists.{every}
use Rattle.wire.specs.Bytes.{bytes, same}
use Rattle.entry_id.specs.Text.{split_on, join_with}
use Rattle.entry_id.specs.Meaning.{meaning, piece, canonical_of, processor_byte, valid, canon}
use Rattle.entry_id.specs.Canonical.{head_number, head_key, in_room}
use Rattle.entry_id.specs.Scan.{part, pieces_at}
use Rattle.entry_id.specs.Profile.{ours, with_processor}
use Rattle.canonical_form.specs.declared.Form.{Form}
use Rattle.profile_form.specs.declared.parts.Card.{Card}
use Rattle.canonical_form.specs.Made.{compared_length, form_of}

-- what follows the first '-'
unfoldable pub behind : List ℕ → List ℕ
behind s = join_with (code "-") (drop 1 (split_on (code "-") s))

-- x begins with p
unfoldable pub begins : List ℕ → List ℕ → Bool
begins p x = same (take (length p) x) p

-- where a text of our kinds and arch goes on after them; else 0
unfoldable pub past_arch : List ℕ → ℕ
past_arch x =
    cond (begins (bytes "hip-amdgcn-") x) 11
    (cond (begins (bytes "hipv4-amdgcn-") x) 13
    (cond (begins (bytes "openmp-amdgcn-") x) 14 0))

-- the text with another name in the place of its processor, which stands from `at` to `stop`
unfoldable pub renamed : List ℕ → ℕ → ℕ → List ℕ → List ℕ
renamed x at stop p = take at x ++ p ++ drop stop x

-- a canonical form of ours, with its parts where c says
pub record OursAt (x : List ℕ) (c : Card) : Type 0 where
  pub right : T (valid x)
  pub again : canon x ≡ x
  pub is_ours : ours (meaning x) ≡ true
  pub first : c.kind ≤ c.at
  pub low : c.at ≤ c.stop
  pub high : c.stop ≤ length x
  pub name : part x c.at c.stop ≡ (meaning x).processor
  pub form : (p : List ℕ) → canonical_of (with_processor (meaning x) p) ≡ renamed x c.at c.stop p
  pub key : (p : List ℕ) → T (every processor_byte p) → head_key (renamed x c.at c.stop p) ≡ (head_number (drop c.kind (take c.at x ++ p)) + compared_length c.kind) % 2 ^ 64
  pub pieces : pieces_at x c.stop ≡ map piece (meaning x).features

-- a text in which a name p may take the place of the processor
pub record Renameable (x : List ℕ) (c : Card) (p : List ℕ) : Type 0 where
  pub first : c.kind ≤ c.at
  pub low : c.at ≤ c.stop
  pub high : c.stop ≤ length x
  pub whole : length x ≤ 256
  pub short : length p ≤ 16
  pub some : 0 < length p
  pub key : head_key (renamed x c.at c.stop p) ≡ (head_number (drop c.kind (take c.at x ++ p)) + compared_length c.kind) % 2 ^ 64

-- a form was written to the start of a buffer where it fits; else the buffer is as it was
pub record Written (c before after : List ℕ) (r : Option Form) : Type 0 where
  pub form_is : r ≡ form_of (in_room (length before) c)
  pub text : after ≡ in_room (length before) c ++ drop (length (in_room (length before) c)) before
