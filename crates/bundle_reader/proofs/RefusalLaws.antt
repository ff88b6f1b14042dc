-- Refusals in order, by the results that carry them; the first of several places. Assumes nothing.
use Prim.Native.Nat.{ℕ, suc, ◌+◌, ◌-◌, ◌<◌}
use native.Mathlib.Omega.{arith}
use mathlib.Core.Path.{◌≡◌, refl, sym, ap, ap₂, ◌∙◌}
use mathlib.Core.Bool.{Bool, true, false, ◌||◌}
use mathlib.Core.List.{List}
use Rattle.std.specs.Prelude.{Option, Some, None, Result, Ok, Err, IfOk}
use Rattle.std.specs.Option.{option_or}
use Rattle.std.specs.Bool.{then_some}
use borrow.Author.Tests.{ltb-true, eq-eqb, ne_eqb}
use borrow.Author.Count.{below_more}
use Rattle.wire.specs.First.{first, any_below}
use Rattle.wire.specs.Stop.{Stop, go, stop, ◌⨾◌, stop_at, unrefused}
use Rattle.wire.specs.Refusals.{number_of, stop_by, stop_of}
use Rattle.wire.specs.declared.Reason.{Reason}
use Rattle.wire.specs.declared.Reason.TheVariants as reasons
use Rattle.wire.specs.declared.Refusal.{Refusal}
use Rattle.wire.proofs.Bools.{by_bool}
use Rattle.wire.proofs.FirstLaws.{first_is, first-before, first_at, any_some, any_none, none_any}
use Rattle.wire.proofs.StopLaws.{⨾-go, ⨾-first, stop_at_found, stop_at_go, unrefused-stop}
use Rattle.entry_id.specs.IdRules.{IdRules}
use Rattle.bundle.specs.Table.{count}
use Rattle.bundle.specs.Results.{picked_of}
use Rattle.bundle.specs.declared.Image.{Image}
use Rattle.bundle.specs.declared.Picked.{Picked}
use Rattle.bundle.specs.declared.PickedInTurn.{PickedInTurn}
use Rattle.bundle.specs.declared.PickedInTurn.TheVariants.{First, Second}
use Rattle.bundle_reader.specs.Examined.{reason_of, result_by, found, InTurn, pick_in_turn}
use Rattle.bundle_reader.specs.Slots.{first_found}

-- a reason's number is not 0
pub some_number : (r : Reason) → 0 < number_of r
some_number reasons.Length = omega arith
some_number reasons.Magic = omega arith
some_number reasons.Count = omega arith
some_number reasons.Table = omega arith
some_number reasons.Id = omega arith
some_number reasons.Range = omega arith
some_number reasons.Twice = omega arith
some_number reasons.Mixed = omega arith
some_number reasons.Query = omega arith
some_number reasons.None = omega arith
some_number reasons.Big = omega arith
some_number reasons.Room = omega arith
some_number reasons.Head = omega arith
some_number reasons.Span = omega arith
some_number reasons.Kind = omega arith
some_number reasons.Strings = omega arith
some_number reasons.Image = omega arith
some_number reasons.Many = omega arith
some_number reasons.End = omega arith
some_number reasons.Overlap = omega arith
some_number reasons.Names = omega arith

pub number_suc : (r : Reason) → (k : ℕ) × (number_of r ≡ suc k)
number_suc r = (number_of r - 1, omega (arith, some_number r))

-- a refusal is the first that refuses; what does not refuse is passed
pub refuses : (r : Refusal) (a b : Stop) → stop_by r ≡ a → stop_by r ≡ a ⨾ b
refuses r a b e = e ∙ sym (⨾-first a b (number_of r.reason) (some_number r.reason) (ap (λ t. t.number) (sym e)))

pub refuses_at : (k i : ℕ) (a b : Stop) → stop (suc k) i ≡ a → stop (suc k) i ≡ a ⨾ b
refuses_at k i a b e = e ∙ sym (⨾-first a b (suc k) (omega arith) (ap (λ t. t.number) (sym e)))

pub passes : (t a b : Stop) → go ≡ a → t ≡ b → t ≡ a ⨾ b
passes t a b e f = f ∙ sym (⨾-go b) ∙ ap (λ z. z ⨾ b) e

-- what a refusal has beside its number and place
pub refused-zero : (r : Refusal) (a : Stop) (v : ℕ) → stop_by r ≡ a → unrefused a v ≡ 0
refused-zero r a v e = let (k, q) = number_suc r.reason in unrefused-stop a v k (ap (λ t. t.number) (sym e) ∙ q)

-- ---- a result by what refuses it

reason_is : (r : Reason) → r ≡ reason_of (number_of r)
unfolding reason_of
reason_is reasons.Length = refl
reason_is reasons.Magic = refl
reason_is reasons.Count = refl
reason_is reasons.Table = refl
reason_is reasons.Id = refl
reason_is reasons.Range = refl
reason_is reasons.Twice = refl
reason_is reasons.Mixed = refl
reason_is reasons.Query = refl
reason_is reasons.None = refl
reason_is reasons.Big = refl
reason_is reasons.Room = refl
reason_is reasons.Head = refl
reason_is reasons.Span = refl
reason_is reasons.Kind = refl
reason_is reasons.Strings = refl
reason_is reasons.Image = refl
reason_is reasons.Many = refl
reason_is reasons.End = refl
reason_is reasons.Overlap = refl
reason_is reasons.Names = refl

module _ {A : Type 0} (v : A) where
  err_is : (r : Refusal) → Err r ≡ result_by (stop_by r) v
  unfolding result_by
  err_is r =
      let (k, q) = number_suc r.reason in
      ap (λ z. Err (record { reason = z; place = r.place })) (reason_is r.reason) ∙ (rw q)

  ok_is : Ok v ≡ result_by go v
  unfolding result_by
  ok_is = refl

  pub result_is : (t : Stop) (r : Result A Refusal) → stop_of r ≡ t → IfOk r (λ x. x ≡ v) → r ≡ result_by t v
  result_is t (Ok x) e q = ap Ok q ∙ ok_is ∙ ap (λ z. result_by z v) e
  result_is t (Err r) e q = err_is r ∙ ap (λ z. result_by z v) e

-- of no value
pub unit_is : (r : Result (Unit {0}) Refusal) → IfOk r (λ x. x ≡ tt)
unit_is (Ok x) = refl
unit_is (Err r) = tt

pub found_is : (r : Result Image Refusal) (p : Picked) → picked_of r ≡ p → r ≡ found p
unfolding found
found_is (Ok i) p e = result_is i go (Ok i) refl refl ∙ ap found e
found_is (Err r) p e = err_is (record { index = 0; position = 0; size = 0 }) r ∙ ap found e

-- the first bundle and the second in turn
pub turn_is : (R : IdRules) (first second device : List ℕ) (r : PickedInTurn) → InTurn R first second device r → r ≡ pick_in_turn R first second device
unfolding pick_in_turn
turn_is R first second device (Second q) (ten, is) = ap Second (found_is q _ is) ∙ (rw (eq-eqb _ 10 ten))
turn_is R first second device (First p c) (other, picked, stops, value) =
    ap₂ (λ x y. First x y) (found_is p _ picked) (result_is (count second) _ c stops value) ∙ (rw (ne_eqb _ 10 other))

-- ---- the first of some places

pub found_none : (p : ℕ → Bool) → None ≡ first_found 0 p
unfolding first_found any_below first
found_none p = refl

found_yes : (n : ℕ) (p : ℕ → Bool) → any_below n p ≡ true → first_found n p ≡ Some (first n p)
unfolding first_found
found_yes n p e = rw e

found_no : (n : ℕ) (p : ℕ → Bool) → any_below n p ≡ false → first_found n p ≡ None
unfolding first_found
found_no n p e = rw e

pub found_more : (i : ℕ) (p : ℕ → Bool) (o : Option ℕ) (b : Bool) → o ≡ first_found i p → b ≡ p i → option_or o (then_some b i) ≡ first_found (i + 1) p
unfolding any_below
found_more i p o b e q =
    by_bool (any_below i p)
    (λ t.
    let h : first i p < i = ltb-true (first i p) i t in
    let same : first (i + 1) p ≡ first i p = first_is (i + 1) p (first i p) (omega arith) (first_at i p h) (λ k l. first-before i p k l) in
    ap (λ z. option_or z (then_some b i)) (e ∙ found_yes i p t) ∙ ap Some (sym same) ∙ sym (found_yes (i + 1) p (any_some (i + 1) p (first i p) (omega arith) (first_at i p h))))
    (λ f.
    by_bool b
    (λ t.
    ap₂ (λ z c. option_or z (then_some c i)) (e ∙ found_no i p f) t
    ∙ ap Some (sym (first_is (i + 1) p i (omega arith) (sym q ∙ t) (none_any i p f)))
    ∙ sym (found_yes (i + 1) p (any_some (i + 1) p i (omega arith) (sym q ∙ t))))
    (λ u.
    ap₂ (λ z c. option_or z (then_some c i)) (e ∙ found_no i p f) u
    ∙ sym (found_no (i + 1) p (any_none (i + 1) p (below_more _ i (none_any i p f) (sym q ∙ u))))))

pub found_here : (i : ℕ) (p : ℕ → Bool) (o : Option ℕ) → o ≡ first_found i p → p i ≡ true → option_or o (Some i) ≡ first_found (i + 1) p
found_here i p o e q = found_more i p o true e (sym q)

pub found_next : (i : ℕ) (p : ℕ → Bool) (o : Option ℕ) → o ≡ first_found i p → p i ≡ false → o ≡ first_found (i + 1) p
found_next i p o e q = sym (or_none o) ∙ found_more i p o false e (sym q)
  where
    or_none : (o : Option ℕ) → option_or o None ≡ o
    or_none None = refl
    or_none (Some k) = refl

-- as a refusal
pub found_stop : (k n : ℕ) (p : ℕ → Bool) (i : ℕ) → Some i ≡ first_found n p → stop k i ≡ stop_at k n p
unfolding any_below
found_stop k n p i e =
    by_bool (any_below n p)
    (λ t.
    let q : i ≡ first n p = (let z : Some i ≡ Some (first n p) = e ∙ found_yes n p t in cc) in
    sym (stop_at_found k n p i q (omega (arith, q, ltb-true (first n p) n t))))
    (λ f. let z : Some i ≡ None = e ∙ found_no n p f in absurd (cc))

pub found_go : (k n : ℕ) (p : ℕ → Bool) → None ≡ first_found n p → go ≡ stop_at k n p
unfolding any_below
found_go k n p e =
    by_bool (any_below n p)
    (λ t. let z : None ≡ Some (first n p) = e ∙ found_yes n p t in absurd (cc))
    (λ f. sym (stop_at_go k n p (none_any n p f)))

pub any_more : (j : ℕ) (p : ℕ → Bool) → any_below (j + 1) p ≡ (any_below j p || p j)
unfolding any_below
any_more j p =
    by_bool (any_below j p)
    (λ t. let h : first j p < j = ltb-true (first j p) j t in any_some (j + 1) p (first j p) (omega arith) (first_at j p h) ∙ sym (ap (λ z. z || p j) t))
    (λ f.
    by_bool (p j)
    (λ t. any_some (j + 1) p j (omega arith) t ∙ sym (ap₂ ◌||◌ f t))
    (λ u. any_none (j + 1) p (below_more _ j (none_any j p f) u) ∙ sym (ap₂ ◌||◌ f u)))
