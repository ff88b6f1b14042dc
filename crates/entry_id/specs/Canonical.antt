-- Canonical forms as code handles them: written into a lent buffer, and compared as texts. Definitions only.
-- The theorem `EntryIds` of `Theorems` says that on canonical forms the tests on texts are the tests on meanings.
use Rattle.std.specs.Prelude.{ℕ, ◌+◌, ◌-◌, ◌%◌, ◌^◌, Bool, not, ◌&&◌, ◌||◌, cond, List, [], length, get_or, drop, leb, eqb}
use Prim.Native.Char.{code}
use Rattle.wire.specs.Lists.{agree, any, every}
use Rattle.wire.specs.Bytes.{same}
use Rattle.wire.specs.Word.{word}
use Rattle.entry_id.specs.Text.{split_on}
use Rattle.entry_id.specs.Meaning.{fields_of, pieces_of, canon}
use Rattle.entry_id.specs.Compare.{compared_kind}

-- a form where it fits `room` bytes, else nothing; room for 256 bytes is enough for every ID
unfoldable pub in_room : ℕ → List ℕ → List ℕ
in_room room c = cond (leb (length c) room) c []

-- the canonical form where it fits
unfoldable pub canonical_in : ℕ → List ℕ → List ℕ
canonical_in room x = in_room room (canon x)

-- the text before its first ':': of a canonical form kind, triple and processor
unfoldable pub head_of : List ℕ → List ℕ
head_of x = get_or (split_on (code ":") x) 0 []

-- its first field: of a canonical form the kind
unfoldable pub kind_part : List ℕ → List ℕ
kind_part x = get_or (fields_of x) 0 []

-- the text behind it
unfoldable pub after_kind : List ℕ → List ℕ
after_kind x = drop (length (kind_part x)) x

-- a number made from a head: the words of its first and of its last eight bytes, added
unfoldable pub head_number : List ℕ → ℕ
head_number h = (word 8 h 0 + word 8 h (length h - 8)) % 2 ^ 64

-- a number made from a kind and a head behind it: the head's, and the length of the kind that the kind is compared as
unfoldable pub key_of : List ℕ → List ℕ → ℕ
key_of k h = (head_number h + length (compared_kind k)) % 2 ^ 64

-- that of a text's: texts that a test below relates have equal ones
unfoldable pub head_key : List ℕ → ℕ
head_key x = key_of (kind_part x) (head_of (after_kind x))

-- each piece of ps stands among qs
unfoldable pub within : List (List ℕ) → List (List ℕ) → Bool
within qs ps = every (λ p. any (same p) qs) ps

-- a sign, `+` or `-`
unfoldable pub sign_byte : ℕ → Bool
sign_byte b = eqb b (code "+") || eqb b (code "-")

-- of two bytes: the same, or both signs
unfoldable pub same_but_sign : ℕ → ℕ → Bool
same_but_sign x y = eqb x y || (sign_byte x && sign_byte y)

-- ---- the tests on two texts

-- as they are spelled: the same head, and each piece of the entry's is one of the device's
unfoldable pub compatible_spelled : List ℕ → List ℕ → Bool
compatible_spelled e d = same (head_of e) (head_of d) && within (pieces_of d) (pieces_of e)

-- as they are spelled: equal heads and other feature names; texts with the same names are the same but for signs
unfoldable pub mixed_spelled : List ℕ → List ℕ → Bool
mixed_spelled a b = same (head_of a) (head_of b) && not (agree same_but_sign a b)

-- the kinds are compared as one kind, and what follows them passes a test as it is spelled
unfoldable pub of_one_kind : (List ℕ → List ℕ → Bool) → List ℕ → List ℕ → Bool
of_one_kind test a b = same (compared_kind (kind_part a)) (compared_kind (kind_part b)) && test (after_kind a) (after_kind b)

unfoldable pub compatible_text : List ℕ → List ℕ → Bool
compatible_text = of_one_kind compatible_spelled

unfoldable pub same_text : List ℕ → List ℕ → Bool
same_text = of_one_kind same

unfoldable pub mixed_text : List ℕ → List ℕ → Bool
mixed_text = of_one_kind mixed_spelled
