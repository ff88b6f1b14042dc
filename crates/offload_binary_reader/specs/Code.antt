-- What the private functions of the reader ensure. No public promise rests on these. Definitions only.
use Rattle.std.specs.Prelude.{ℕ, Bool, cond, List, Option, None, Some}
use Rattle.offload_binary.specs.Binary.{entry_of, body_stop, hands_back, answer_by}
use Rattle.offload_binary.specs.declared.Answer.{Answer}

-- what was read, and none where it is refused
abbrev pub unless : {A : Type 0} → Bool → A → Option A
unless refused x = cond refused None (Some x)

-- 15 to 17 of a binary's own bytes with its entry at an offset; where none is given, what it holds
unfoldable pub body_answer : ℕ → List ℕ → ℕ → Answer
body_answer from o at = answer_by (body_stop o (entry_of o at)).number from (hands_back from o (entry_of o at))
