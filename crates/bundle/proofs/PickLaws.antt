-- The pick case by case. Assumes nothing.
use Prim.Native.Nat.{ℕ, suc, ◌<◌}
use native.Mathlib.Omega.{arith}
use mathlib.Core.Path.{◌≡◌, refl, ap, ◌∙◌}
use mathlib.Core.Bool.{true, false}
use mathlib.Core.List.{List}
use lib.Dec.{ltb}
use borrow.Author.Tests.{ltb-true, ltb-false}
use Rattle.wire.specs.Bytes.{empty}
use Rattle.wire.specs.First.{any_below}
use Rattle.wire.specs.Stop.{Stop, go, stop, ◌⨾◌, stop_if, stop_when, unrefused}
use Rattle.wire.proofs.Bools.{by_bool, not_no, yes_not}
use Rattle.wire.proofs.FirstLaws.{first_at, any_some, any_none}
use Rattle.wire.proofs.StopLaws.{⨾-both, ⨾-left, ⨾-right, ⨾-stop, stop_if-go, stop_if_no, unrefused-stop}
use Rattle.entry_id.specs.IdRules.{IdRules, Lawful}
use Rattle.bundle.specs.Table.{count, row}
use Rattle.bundle.specs.Check.{bundle_stop, bad_id, mean_same, mix}
use Rattle.bundle.specs.Pick.{compatible_at, chosen, pick_stop, pick}
use Rattle.bundle.specs.Accepted.{Accepted}
use Rattle.bundle.specs.Theorems.{refusal, image_at, Asked}
use Rattle.bundle.specs.declared.Picked.{Picked}
use Rattle.bundle.proofs.AcceptLaws.{accepted, accepted-go}

module _ (R : IdRules) (s device : List ℕ) where
  -- ---- what refuses a pick

  pub refused_by_lem : (t : Stop) (k : ℕ) → pick_stop R s device ≡ t → t.number ≡ suc k → pick R s device ≡ refusal t.number t.place
  unfolding pick
  refused_by_lem t k p e =
      let z : (v : ℕ) → unrefused t v ≡ 0 = λ v. unrefused-stop t v k e in
      rw (p, z (chosen R s device), z (row s (chosen R s device)).offset, z (row s (chosen R s device)).size)

  pub pick-refused : (k : ℕ) → (bundle_stop R s).number ≡ suc k → pick R s device ≡ refusal (bundle_stop R s).number (bundle_stop R s).place
  unfolding pick_stop
  pick-refused k e = refused_by_lem (bundle_stop R s) k (⨾-stop _ _ k e) e

  pub pick-query : Accepted R s → empty (R.canon device) ≡ true → pick R s device ≡ refusal 9 0
  unfolding pick_stop stop_if stop_when ◌⨾◌
  pick-query a q = refused_by_lem (stop 9 0) 8 (rw (accepted-go R s a, q)) refl

  pub pick-none : Asked R s device → ((i : ℕ) → i < count s → compatible_at R s device i ≡ false) → pick R s device ≡ refusal 10 0
  unfolding pick_stop stop_if stop_when ◌⨾◌
  pick-none a h = refused_by_lem (stop 10 0) 9 (rw (accepted-go R s a.bundle, a.name, any_none (count s) (compatible_at R s device) h)) refl

  pub pick_stop-go : Asked R s device → any_below (count s) (compatible_at R s device) ≡ true → pick_stop R s device ≡ go
  unfolding pick_stop
  pick_stop-go a t = ⨾-both _ _ (accepted-go R s a.bundle) (⨾-both _ _ (stop_if-go 9 _ a.name) (stop_if-go 10 _ (yes_not _ t)))

  -- ---- a pick that is not refused

  module _ (e : (pick_stop R s device).number ≡ 0) where
    pub picked-asked : Asked R s device
    unfolding pick_stop
    picked-asked = record { bundle = accepted R s (⨾-left _ _ e); name = stop_if_no 8 _ (⨾-left _ _ (⨾-right _ _ e)) }

    pub picked-any : any_below (count s) (compatible_at R s device) ≡ true
    unfolding pick_stop
    picked-any = not_no _ (stop_if_no 9 _ (⨾-right _ _ (⨾-right _ _ e)))

    pub chosen_lt : chosen R s device < count s
    unfolding chosen any_below
    chosen_lt = ltb-true _ _ picked-any

    pub chosen-compatible : compatible_at R s device (chosen R s device) ≡ true
    unfolding chosen
    chosen-compatible = first_at (count s) (compatible_at R s device) chosen_lt

    pub pick-image : pick R s device ≡ image_at s (chosen R s device)
    unfolding pick unrefused
    pick-image = rw (pick_stop-go picked-asked picked-any)

  pub picked_lt : (pick R s device).number ≡ 0 → (pick R s device).index < count s
  unfolding pick
  picked_lt e = omega (arith, ap (λ (p : Picked). p.index) (pick-image e), chosen_lt e)

-- ---- two compatible entries are one

module _ (R : IdRules) (L : Lawful R) (s device : List ℕ) (a : Asked R s device) where
  compatible_once : (i j : ℕ) → j < i → i < count s → compatible_at R s device j ≡ true → compatible_at R s device i ≡ true → ⊥
  unfolding compatible_at mean_same mix bad_id
  compatible_once i j l h p q =
      let m = a.bundle.sense.meant in
      L.one_compatible (row s j).id (row s i).id device (m.named j (omega arith)) (m.named i h) a.name p q (m.once i h j l) (m.unmixed i h j l)

  pub compatible-one : (i j : ℕ) → i < count s → j < count s → compatible_at R s device i ≡ true → compatible_at R s device j ≡ true → i ≡ j
  compatible-one i j h k p q =
      by_bool (ltb i j)
      (λ t. absurd (compatible_once j i (ltb-true i j t) k p q))
      (λ f.
      by_bool (ltb j i)
      (λ t. absurd (compatible_once i j (ltb-true j i t) h q p))
      (λ g. omega (arith, ltb-false i j f, ltb-false j i g)))

  pub pick-found : (i : ℕ) → i < count s → compatible_at R s device i ≡ true → pick R s device ≡ image_at s i
  pick-found i h f =
      let t : (pick_stop R s device).number ≡ 0 = ap (λ z. z.number) (pick_stop-go R s device a (any_some (count s) (compatible_at R s device) i h f)) in
      pick-image R s device t ∙ ap (image_at s) (compatible-one (chosen R s device) i (chosen_lt R s device t) h (chosen-compatible R s device t) f)
