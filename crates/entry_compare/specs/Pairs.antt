-- What is compared of two texts: for private functions. Definitions only. Assumes nothing.
use Rattle.std.specs.Prelude.{ℕ, ◌≡◌, Bool, false, T, List, ◌++◌}
use Rattle.wire.specs.Lists.{every}
use Rattle.wire.specs.Bytes.{same}
use Rattle.entry_id.specs.Text.{not_colon}
use Rattle.entry_id.specs.Canonical.{head_of, of_one_kind}
use Rattle.entry_compare.specs.declared.Pair.{Pair}

-- a start without ':' decides nothing where both texts have it, and texts with other heads fail
pub record ByHead (test : List ℕ → List ℕ → Bool) : Type 0 where
  pub start : (p a b : List ℕ) → T (every not_colon p) → test (p ++ a) (p ++ b) ≡ test a b
  pub apart : (a b : List ℕ) → same (head_of a) (head_of b) ≡ false → test a b ≡ false

-- no test behind the kinds is passed: they are not compared as one
abbrev pub Unlike : List ℕ → List ℕ → Type 0
Unlike a b = (test : List ℕ → List ℕ → Bool) → of_one_kind test a b ≡ false

-- a test of p is the test of a and b behind their kinds
abbrev pub Stands : List ℕ → List ℕ → Pair → Type 0
Stands a b p = (test : List ℕ → List ℕ → Bool) → ByHead test → test p.a.now p.b.now ≡ of_one_kind test a b
