use Rattle.std.proofs.Common.{◌≡◌, ℕ, Bool, T}
use Rattle.wire.specs.Lists.{every}
use Rattle.entry_id.specs.Scan.{part}
use Rattle.canonical_form.proofs.scan.run_end.Given as goal

-- Every byte so far is of the class.
abbrev pub invariant-loop-i : goal.invariant-loop-i
invariant-loop-i g l = (class : ℕ → Bool) → ((b : ℕ) (r : Bool) → goal.F-post g l.in_class b r → r ≡ class b) → T (every class (part l.x l.from l.i))
