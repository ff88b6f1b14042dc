-- Refusals in order: "A refusal returns its number and a place (0 where none is named)"; what a refused call returns and leaves. Definitions only.
use Rattle.std.specs.Prelude.{ℕ, zero, suc, Bool, true, false, List, ◌++◌, length, drop}
use Rattle.wire.specs.First.{first, any_below}

-- a refusal's number and place; number 0: nothing is refused
pub record Stop : Type 0 where
  pub number : ℕ
  pub place : ℕ

abbrev pub go : Stop
go = record { number = 0; place = 0 }

abbrev pub stop : ℕ → ℕ → Stop
stop k i = record { number = k; place = i }

abbrev unless : ℕ → Stop → Stop → Stop
unless zero a b = b
unless (suc k) a b = a

-- "in this order": the first that refuses, else the second
infixr 20 ◌⨾◌
unfoldable pub ◌⨾◌ : Stop → Stop → Stop
◌⨾◌ a b = unless a.number a b

unfoldable pub stop_when : Bool → Stop → Stop
stop_when true s = s
stop_when false s = go

-- refused by k where b holds, with no place named
unfoldable pub stop_if : ℕ → Bool → Stop
stop_if k b = stop_when b (stop k 0)

-- "over all entries .. the place is the lowest entry index it applies to": refused by k where p holds of an index below n
unfoldable pub stop_at : ℕ → ℕ → (ℕ → Bool) → Stop
stop_at k n p = stop_when (any_below n p) (stop k (first n p))

-- "an earlier entry": one before the i-th stands in the relation to it
unfoldable pub earlier : {A : Type 0} → (A → A → Bool) → (ℕ → A) → ℕ → Bool
earlier related f i = any_below i (λ j. related (f j) (f i))

-- "A refusal .. has 0 in every other returned number": v where nothing is refused, else 0
unfoldable pub unrefused : Stop → ℕ → ℕ
unrefused t v = elim t.number [ zero ↦ v | suc k ↦ 0 ]

-- bytes, or items, at the start of a lent output: "Bytes of the lent output beyond that length stay as they were."
unfoldable pub over : {A : Type 0} → List A → List A → List A
over items out = items ++ drop (length items) out

-- the lent output after the call: "A refusal .. writes no output"
unfoldable pub output : {A : Type 0} → Stop → List A → List A → List A
output t items out = elim t.number [ zero ↦ over items out | suc k ↦ out ]
