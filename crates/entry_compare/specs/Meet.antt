-- What is found of two texts whose kinds and heads are compared: for private functions. Definitions only. Assumes nothing.
use Rattle.std.specs.Prelude.{ℕ, ◌≤◌, ◌≡◌, true, List, length, take, drop}
use Rattle.wire.specs.Bytes.{same}
use Rattle.entry_id.specs.Text.{not_colon}
use Rattle.entry_id.specs.Scan.{Run}
use Rattle.entry_id.specs.Canonical.{head_of, kind_part, after_kind}

-- two heads are the same and end at e
pub record Meet (a b : List ℕ) (e : ℕ) : Type 0 where
  pub heads : same (head_of a) (head_of b) ≡ true
  pub in_a : Run not_colon a 0 e
  pub in_b : Run not_colon b 0 e

-- the first field of x ends at r
pub record KindEnds (x : List ℕ) (r : ℕ) : Type 0 where
  pub within : r ≤ length x
  pub kind : take r x ≡ kind_part x
  pub after : drop r x ≡ after_kind x
