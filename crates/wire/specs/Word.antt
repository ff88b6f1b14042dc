-- Little-endian words: "All integers are little-endian". Definitions only.
use Rattle.std.specs.Prelude.{ℕ, zero, suc, ◌+◌, ◌*◌, ◌/◌, ◌%◌, List, [], ◌∷◌, get_or, drop}

-- the n bytes of a number, the least first; what does not fit them is lost
unfoldable pub bytes_of : ℕ → ℕ → List ℕ
bytes_of zero v = []
bytes_of (suc n) v = v % 256 ∷ bytes_of n (v / 256)

-- the number that a list's first n bytes make, the least first; past the end a byte counts 0
unfoldable pub word_of : ℕ → List ℕ → ℕ
word_of zero s = 0
word_of (suc n) s = get_or s 0 0 + 256 * word_of n (drop 1 s)

-- the number in the n bytes of s at `at`
unfoldable pub word : ℕ → List ℕ → ℕ → ℕ
word n s at = word_of n (drop at s)
