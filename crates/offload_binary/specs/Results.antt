-- The numbers of what a call returns: "An accepted call has place 0"; "A refusal returns its number and a place", and "has 0 in every other returned number".
-- Definitions only.
use Rattle.std.specs.Prelude.{ℕ, Result, Ok, Err}
use Rattle.wire.specs.Refusals.{number_of}
use Rattle.wire.specs.declared.Refusal.{Refusal}
use Rattle.offload_binary.specs.Binary.{handed, refused}
use Rattle.offload_binary.specs.declared.Binary.{Binary}
use Rattle.offload_binary.specs.declared.Cursor.{Cursor}
use Rattle.offload_binary.specs.declared.Recovery.{Recovery}
use Rattle.offload_binary.specs.declared.Answer.{Answer}
use Rattle.offload_binary.specs.declared.Step.{Step}
use Rattle.offload_binary.specs.declared.Written.{Written}
use Rattle.offload_binary.specs.declared.Recovered.{Recovered}

abbrev pub answer_of : Result Binary Refusal → Answer
answer_of (Ok b) = handed b
answer_of (Err r) = refused (number_of r.reason) r.place

-- of a reader at c: with a binary it hands back where it then stands, and "After a refusal .. or END it stays where it is"
abbrev pub step_of : Cursor → Result (Binary × Cursor) Refusal → Step
step_of c (Ok p) = record { answer = handed p.0; cursor = p.1 }
step_of c (Err r) = record { answer = refused (number_of r.reason) r.place; cursor = c }

abbrev pub written_of : Result ℕ Refusal → Written
written_of (Ok n) = record { number = 0; place = 0; len = n }
written_of (Err r) = record { number = number_of r.reason; place = r.place; len = 0 }

abbrev pub recovered_of : Result Recovery Refusal → Recovered
recovered_of (Ok r) = record { number = 0; place = 0; length = r.length; spans = r.spans }
recovered_of (Err r) = record { number = number_of r.reason; place = r.place; length = 0; spans = 0 }
