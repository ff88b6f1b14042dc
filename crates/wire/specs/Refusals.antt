-- The reasons of refusals and their numbers; what refuses a call by its result. Definitions only.
use Rattle.std.specs.Prelude.{ℕ, Result, Ok, Err}
use Rattle.wire.specs.Stop.{Stop, go, stop}
use Rattle.wire.specs.declared.Reason.{Reason}
use Rattle.wire.specs.declared.Reason.TheVariants as reasons
use Rattle.wire.specs.declared.Refusal.{Refusal}

-- "A refusal returns its number and a place": the numbers of RULES 3.5
abbrev pub number_of : Reason → ℕ
number_of reasons.Length = 1
number_of reasons.Magic = 2
number_of reasons.Count = 3
number_of reasons.Table = 4
number_of reasons.Id = 5
number_of reasons.Range = 6
number_of reasons.Twice = 7
number_of reasons.Mixed = 8
number_of reasons.Query = 9
number_of reasons.None = 10
number_of reasons.Big = 11
number_of reasons.Room = 12
number_of reasons.Head = 13
number_of reasons.Span = 14
number_of reasons.Kind = 15
number_of reasons.Strings = 16
number_of reasons.Image = 17
number_of reasons.Many = 18
number_of reasons.End = 19
number_of reasons.Overlap = 21
number_of reasons.Names = 23

-- the refusal r, by its number
abbrev pub stop_by : Refusal → Stop
stop_by r = stop (number_of r.reason) r.place

-- what refuses a call that returns this
abbrev pub stop_of : {A : Type 0} → Result A Refusal → Stop
stop_of (Ok _) = go
stop_of (Err r) = stop_by r
