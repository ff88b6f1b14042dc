-- What scans of one text find, in terms of its positions: for the code that reads texts. No public promise rests on it. Definitions only. Assumes nothing.
use Rattle.std.specs.Prelude.{ℕ, suc, ◌-◌, ◌≤◌, ◌<◌, ◌≡◌, Bool, true, false, cond, List, [], length, get_or, take, drop, T, ltb, eqb}
use Rattle.wire.specs.Lists.{every}
use Rattle.entry_id.specs.Text.{split_on}

-- the bytes from a up to e
unfoldable pub part : {A : Type 0} → List A → ℕ → ℕ → List A
part x a e = take (e - a) (drop a x)

-- from a up to r every byte passes, and the next one, if there is one, does not
pub record Run (p : ℕ → Bool) (x : List ℕ) (a r : ℕ) : Type 0 where
  pub low : a ≤ r
  pub high : r ≤ length x
  pub passed : T (every p (part x a r))
  pub stop : r < length x → p (get_or x r 0) ≡ false

-- the head of the text ends at e: the text does, or a ':' stands there
unfoldable pub ends_at : List ℕ → ℕ → Bool
ends_at x e = cond (ltb e (length x)) (eqb (get_or x e 0) 58) true

-- the pieces of a text whose head ends at e
unfoldable pub pieces_at : List ℕ → ℕ → List (List ℕ)
pieces_at x e = cond (ltb e (length x)) (split_on 58 (drop (suc e) x)) []
