-- Words read the other way round: for private functions. Definitions only. Assumes nothing.
use Rattle.std.specs.Prelude.{ℕ, zero, suc, ◌+◌, ◌*◌, ◌^◌, List, get_or}

-- the number in the n bytes of s at `at`, the greatest first; past the end a byte counts 0
unfoldable pub big_word : ℕ → List ℕ → ℕ → ℕ
big_word zero s at = 0
big_word (suc n) s at = 256 ^ n * get_or s at 0 + big_word n s (at + 1)
