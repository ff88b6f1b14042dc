use Rattle.normal_form.specs.Code.{id_of}
use Rattle.normal_form.proofs.OrderLaws.{Sorted}
use Rattle.normal_form.proofs.rising_order.Given as goal

abbrev pub invariant-loop-i : goal.invariant-loop-i
invariant-loop-i l = Sorted id_of l.initial.entries l.entries l.i
