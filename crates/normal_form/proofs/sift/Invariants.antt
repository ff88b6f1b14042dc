use mathlib.Core.Path.{◌≡◌}
use mathlib.Core.List.{List, ◌∷◌}
use Rattle.normal_form.specs.Code.{id_of}
use Rattle.normal_form.specs.declared.Entry.{Entry}
use Rattle.normal_form.proofs.OrderLaws.{Sifted}
use Rattle.normal_form.proofs.sift.Given as goal

abbrev pub invariant-loop-i : goal.invariant-loop-i
invariant-loop-i l = (e : Entry) → (es : List Entry) → l.initial.entries ≡ e ∷ es → Sifted id_of e es l.entries l.i
