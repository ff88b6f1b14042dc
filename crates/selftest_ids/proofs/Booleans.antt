-- The test for equal truth values, as a comparison of two of them in code denotes it. Assumes nothing.
use mathlib.Core.Path.{◌≡◌, refl, ap, sym, ◌∙◌}
use mathlib.Core.Bool.{Bool, true, false, beq}

beq_refl : (a : Bool) → beq a a ≡ true
beq_refl true = refl
beq_refl false = refl

pub eq_beq : (a b : Bool) → a ≡ b → beq a b ≡ true
eq_beq a b e = ap (beq a) (sym e) ∙ beq_refl a
