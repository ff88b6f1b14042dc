use Rattle.bundle_reader.proofs.RefusalLaws.{turn_is}
use Rattle.bundle_reader.proofs.pick_in_turn.Goals as goal

pub returns-then-is_few-2-clause-answer : goal.returns-then-is_few-2-clause-answer
returns-then-is_few-2-clause-answer c = turn_is _ _ _ _ _ c.pick_in_turn_with.ensures

pub returns-clause-answer : goal.returns-clause-answer
returns-clause-answer c = turn_is _ _ _ _ _ c.pick_in_turn_with-2.ensures
