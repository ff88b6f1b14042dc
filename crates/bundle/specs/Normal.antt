-- The normal form of a bundle, and what normalising gives back. Definitions, and the statement that a refusal writes nothing.
use Rattle.std.specs.Prelude.{ℕ, suc, ◌≡◌, List, ltb, length}
use Rattle.wire.specs.Limit.{limit}
use Rattle.wire.specs.Order.{sort_by}
use Rattle.wire.specs.Stop.{Stop, ◌⨾◌, stop_if, unrefused, output}
use Rattle.entry_id.specs.IdRules.{IdRules}
use Rattle.bundle.specs.Check.{bundle_stop}
use Rattle.bundle.specs.Entry.{Entry, entries}
use Rattle.bundle.specs.Layout.{packed_length, encode}
use Rattle.bundle.specs.declared.Written.{Written}

-- ---- a call that writes

-- 11 BIG "the output would be above the size limit"; 12 ROOM "the lent output is shorter than the output"
unfoldable pub room_stop : ℕ → ℕ → Stop
room_stop len room = stop_if 11 (ltb limit len) ⨾ stop_if 12 (ltb room len)

-- what is returned: "An accepted call has place 0; .. a call that writes the length written"
unfoldable pub answer : Stop → ℕ → Written
answer t len = record { number = t.number; place = t.place; length = unrefused t len }

-- ---- normalising

-- "entries sorted by canonical ID"
abbrev pub by_id : Entry → List ℕ
by_id e = e.id

module _ (R : IdRules) where
  -- "Normal form: entries sorted by canonical ID in byte order (a prefix first), each ID canonical, images packed directly after the table in entry order."
  unfoldable pub normal : List ℕ → List ℕ
  normal s = encode (sort_by by_id (entries R s))

  unfoldable pub normal_length : List ℕ → ℕ
  normal_length s = packed_length (entries R s)

  -- "Normalising checks 1 to 8 [and 21], 11, 12."
  unfoldable pub normalise_stop : List ℕ → ℕ → Stop
  normalise_stop s room = bundle_stop R s ⨾ room_stop (normal_length s) room

  -- number, place and length, of a bundle s and an output of `room` bytes
  unfoldable pub normalise : List ℕ → ℕ → Written
  normalise s room = answer (normalise_stop s room) (normal_length s)

  -- the lent output afterwards
  unfoldable pub normalised : List ℕ → List ℕ → List ℕ
  normalised s out = output (normalise_stop s (length out)) (normal s) out

-- "A refusal .. writes no output": not one byte of the lent output changes
abbrev pub RefusalWritesNothing : IdRules → Type 0
RefusalWritesNothing R = (s out : List ℕ) (k : ℕ) → (normalise R s (length out)).number ≡ suc k → normalised R s out ≡ out
