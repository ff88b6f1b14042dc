use Prim.Native.Nat.{ℕ, ◌<◌}
use native.Mathlib.Omega.{arith}
use mathlib.Core.Bool.{false, ◌&&◌}
use mathlib.Core.Path.{◌≡◌, sym, ap, ◌∙◌}
use mathlib.Core.List.{List}
use lib.Dec.{leb, eqb}
use lib.ListN.{get_or}
use borrow.Author.Count.{below_more}
use borrow.Author.Tests.{eq-eqb, ne_eqb, le-leb, lt-leb}
use Rattle.wire.proofs.Bools.{both_and, and_false}
use Rattle.wire.proofs.FirstLaws.{first_is, first-none}
use Rattle.wire_read.proofs.find.Invariants.{here}
use Rattle.wire_read.proofs.find.Goals as goal

early : (x : List ℕ) (from c i : ℕ) → i < from → here x from c i ≡ false
early x from c i h = ap (λ b. b && eqb (get_or x i 0) c) (lt-leb from i h)

other : (x : List ℕ) (from c i : ℕ) → (get_or x i 0 ≡ c → ⊥) → here x from c i ≡ false
other x from c i n = ap (λ b. leb from i && b) (ne_eqb (get_or x i 0) c n) ∙ and_false (leb from i)

pub loop-i-init : goal.loop-i-init
loop-i-init c = let a = c.args in (omega arith, λ j h. early a.x.now a.from a.c j h)

pub returns-then-x-i : goal.returns-then-x-i
returns-then-x-i c = let l = c.loop-i in
    sym (first_is _ _ l.i (omega arith) (both_and _ _ (le-leb _ _ l.invariant.0) (eq-eqb _ _ c.if-x-i.true)) l.invariant.1)

pub loop-i-preserved : goal.loop-i-preserved
loop-i-preserved c = let l = c.loop-i in
    let a = c.args in
    (omega arith, below_more _ l.i l.invariant.1 (other a.x.now a.from a.c l.i c.if-x-i.false))

pub returns : goal.returns
returns c = let l = c.loop-i in sym (first-none _ _ (λ j h. l.invariant.1 j (omega arith)))
