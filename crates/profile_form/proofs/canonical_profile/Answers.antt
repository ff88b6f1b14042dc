use Prim.Native.Nat.{ℕ}
use mathlib.Core.Path.{sym, ◌∙◌}
use lib.ListN.{replicate, length-replicate}
use Rattle.profile_form.proofs.MadeLaws.{made_none, made-within, made-long, made_again, made_some, made_keyed, made_profile}
use Rattle.profile_form.proofs.canonical_profile.Goals as goal

-- `profile_form::canonical_profile` meets its contract. Assumes nothing.
pub returns-in_err-made : goal.returns-in_err-made
returns-in_err-made c = rw c.from_residual.ensures (made_none c.args.id.now (replicate 256 0) (length-replicate {A = ℕ} 256 0) (sym c.in_err-made.was ∙ c.canonical.ensures.0) c.args.out.now)

pub slice_bounds-form-end : goal.slice_bounds-form-end
slice_bounds-form-end c = let m = c.canonical in made-within c.args.id.now (replicate 256 0) (length-replicate {A = ℕ} 256 0) m.new.out c.in_ok-made.made (sym c.in_ok-made.was ∙ m.ensures.0) m.ensures.1

pub slice_bounds-general-end : goal.slice_bounds-general-end
slice_bounds-general-end c = let m = c.canonical in made-long c.args.id.now (replicate 256 0) (length-replicate {A = ℕ} 256 0) m.new.out c.in_ok-made.made (sym c.in_ok-made.was ∙ m.ensures.0) m.ensures.1

pub invariant_of-general : goal.invariant_of-general
invariant_of-general c = let m = c.canonical in
    record { again = made_again c.args.id.now (replicate 256 0) (length-replicate {A = ℕ} 256 0) m.new.out c.in_ok-made.made (sym c.in_ok-made.was ∙ m.ensures.0) m.ensures.1; some = made_some c.args.id.now (replicate 256 0) (length-replicate {A = ℕ} 256 0) m.new.out c.in_ok-made.made (sym c.in_ok-made.was ∙ m.ensures.0) m.ensures.1; keyed = made_keyed c.args.id.now (replicate 256 0) (length-replicate {A = ℕ} 256 0) m.new.out c.in_ok-made.made (sym c.in_ok-made.was ∙ m.ensures.0) m.ensures.1 }

pub returns : goal.returns
returns c = let m = c.canonical in
    made_profile c.args.id.now (replicate 256 0) (length-replicate {A = ℕ} 256 0) m.new.out c.in_ok-made.made (sym c.in_ok-made.was ∙ m.ensures.0) m.ensures.1 c.args.out.now c.profile.new.out c.profile.result c.profile.ensures
