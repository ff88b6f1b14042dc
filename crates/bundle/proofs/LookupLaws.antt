-- The image for a device name from two bundles, case by case. Assumes nothing.
use Prim.Native.Nat.{ℕ, zero, suc, ◌+◌, ◌≤◌}
use native.Mathlib.Omega.{arith}
use mathlib.Core.Path.{◌≡◌, refl, ap, ◌∙◌}
use mathlib.Core.Logic.{◌⊎◌, inl, inr}
use mathlib.Core.Bool.{Bool, true, false, not, ◌||◌}
use mathlib.Core.List.{List, []}
use lib.ListN.{length, take, drop}
use borrow.Author.Tests.{not-true}
use Rattle.wire.specs.Bytes.{empty}
use Rattle.wire.specs.Stop.{Stop, go, stop, ◌⨾◌, stop_if, stop_when, unrefused}
use Rattle.wire.proofs.Bools.{by_bool, or_neither, not_no, yes_not}
use Rattle.wire.proofs.FirstLaws.{none_any, any_none}
use Rattle.wire.proofs.StopLaws.{⨾-both, ⨾-left, ⨾-right, ⨾-next, ⨾-stop, stop_if-go, stop_if_no, stop_if-first, stop_if_second, unrefused-stop}
use Rattle.entry_id.specs.IdRules.{IdRules, Lawful}
use Rattle.bundle.specs.Table.{count, table_end}
use Rattle.bundle.specs.Check.{bundle_stop, refused_of, check}
use Rattle.bundle.specs.Pick.{compatible_at, pick, picked_image}
use Rattle.bundle.specs.Accepted.{Accepted}
use Rattle.bundle.specs.Theorems.{refusal, Asked}
use Rattle.bundle.specs.Lookup.{not_found, found_in, has, lookup_stop, bundle_of, answering, lookup, lookup_image, LookupExact}
use Rattle.bundle.specs.declared.Found.{Found}
use Rattle.bundle.proofs.CheckLaws.{Own, first-refused, second_refused, none-refused}
use Rattle.bundle.proofs.AcceptLaws.{accepted, accepted-go, past-check}
use Rattle.bundle.proofs.PickLaws.{pick-none, pick_stop-go, picked-asked, picked-any}
use Rattle.bundle.proofs.Theorems.{pick_exact}

-- ---- a pick from a bundle, by whether it has a compatible entry

module _ (R : IdRules) (device s : List ℕ) where
  has_picks : Asked R s device → has R device s ≡ true → (pick R s device).number ≡ 0
  unfolding has pick
  has_picks a t = ap (λ (z : Stop). z.number) (pick_stop-go R s device a t)

  picks_has : (pick R s device).number ≡ 0 → Asked R s device × (has R device s ≡ true)
  unfolding pick has
  picks_has e = (picked-asked R s device e, picked-any R s device e)

  hasnt_none : Asked R s device → has R device s ≡ false → pick R s device ≡ refusal 10 0
  unfolding has
  hasnt_none a f = pick-none R s device a (none_any (count s) (compatible_at R s device) f)

  none_hasnt : Lawful R → pick R s device ≡ refusal 10 0 → Asked R s device × (has R device s ≡ false)
  unfolding has
  none_hasnt L e = let p = (pick_exact R L s device).none.0 e in (p.0, any_none (count s) (compatible_at R s device) p.1)

module _ (R : IdRules) (patch main device : List ℕ) where
  abbrev stopped : Stop
  stopped = lookup_stop R patch main device

  abbrev given : Found
  given = lookup R patch main device

  abbrev held : List ℕ → Bool
  held = has R device

  -- the bundle of the number k
  abbrev bundle : ℕ → List ℕ
  bundle = bundle_of patch main

  -- ---- what refuses the lookup

  -- w is the bundle that is refused, or 0
  refused_by_lem : (t : Stop) (k w : ℕ) → stopped ≡ t → t.number ≡ suc k → refused_of (bundle_stop R patch) (bundle_stop R main) 0 ≡ w → given ≡ not_found t.number t.place w
  unfolding lookup
  refused_by_lem t k w p e q =
      let z : (v : ℕ) → unrefused t v ≡ 0 = λ v. unrefused-stop t v k e in
      let n = answering R patch main device in
      rw (p, z n, z (pick R (bundle n) device).position, z (pick R (bundle n) device).size, q)

  patch_refused : (k : ℕ) → (bundle_stop R patch).number ≡ suc k → given ≡ not_found (bundle_stop R patch).number (bundle_stop R patch).place 1
  unfolding lookup_stop
  patch_refused k e = refused_by_lem (bundle_stop R patch) k 1 (⨾-stop _ _ k e) e (first-refused (bundle_stop R patch) (bundle_stop R main) 0 k e)

  module _ (a : Accepted R patch) where
    passed : (bundle_stop R patch).number ≡ 0
    passed = ap (λ (t : Stop). t.number) (accepted-go R patch a)

    main_refused : (k : ℕ) → (bundle_stop R main).number ≡ suc k → given ≡ not_found (bundle_stop R main).number (bundle_stop R main).place 2
    unfolding lookup_stop
    main_refused k e = refused_by_lem (bundle_stop R main) k 2 (⨾-next _ _ passed ∙ ⨾-stop _ _ k e) e (second_refused (bundle_stop R patch) (bundle_stop R main) 0 k passed e)

    module _ (b : Accepted R main) where
      none_named : (v : ℕ) → refused_of (bundle_stop R patch) (bundle_stop R main) v ≡ v
      none_named v = rw (accepted-go R patch a, accepted-go R main b) (none-refused v)

      unnamed : empty (R.canon device) ≡ true → given ≡ not_found 9 0 0
      unfolding lookup_stop stop_if stop_when ◌⨾◌
      unnamed q = refused_by_lem (stop 9 0) 8 0 (rw (accepted-go R patch a, accepted-go R main b, q)) refl (none_named 0)

      module _ (n : empty (R.canon device) ≡ false) where
        neither : held patch ≡ false → held main ≡ false → given ≡ not_found 10 0 0
        unfolding lookup_stop stop_if stop_when ◌⨾◌
        neither p q = refused_by_lem (stop 10 0) 9 0 (rw (accepted-go R patch a, accepted-go R main b, n, p, q)) refl (none_named 0)

        goes : (held patch || held main) ≡ true → stopped ≡ go
        unfolding lookup_stop
        goes t = ⨾-both _ _ (accepted-go R patch a) (⨾-both _ _ (accepted-go R main b) (⨾-both _ _ (stop_if-go 9 _ n) (stop_if-go 10 _ (yes_not _ t))))

        -- the bundle with the number w answers
        found : (w : ℕ) → answering R patch main device ≡ w → (held patch || held main) ≡ true → given ≡ found_in w (pick R (bundle w) device)
        unfolding lookup unrefused
        found w e t = rw (goes t, none_named (answering R patch main device), e)

  -- ---- and only that

  -- the tests behind both checks
  abbrev asks : Stop
  asks = stop_if 9 (empty (R.canon device)) ⨾ stop_if 10 (not (held patch || held main))

  -- a number that is not one of the check's comes behind both checks, which accept
  past_both : (m : ℕ) → (Own m → ⊥) → given.number ≡ m → Accepted R patch × (Accepted R main × (asks.number ≡ m))
  unfolding lookup lookup_stop
  past_both m o e =
      let p = past-check R patch _ m o e in
      (p.0, past-check R main _ m o p.1)

  query_is : given.number ≡ 9 → Accepted R patch × (Accepted R main × (empty (R.canon device) ≡ true))
  query_is e = let p = past_both 9 (λ o. omega (arith, o (omega arith))) e in (p.0, (p.1.0, stop_if-first 8 9 _ _ (λ z. omega arith) p.1.1))

  -- both bundles are accepted, and the device name keeps the ID rules
  abbrev AskedBoth : Type 0
  AskedBoth = Asked R patch device × Asked R main device

  none_is : given.number ≡ 10 → AskedBoth × ((held patch ≡ false) × (held main ≡ false))
  none_is e =
      let p = past_both 10 (λ o. omega (arith, o (omega arith))) e in
      let b = stop_if_second 8 9 _ _ (λ z. omega arith) p.1.1 in
      ((record { bundle = p.0; name = b.0 }, record { bundle = p.1.0; name = b.0 }), or_neither _ _ (not-true _ b.1))

  answered : given.number ≡ 0 → AskedBoth × ((held patch || held main) ≡ true)
  unfolding lookup lookup_stop
  answered e =
      let m = ⨾-right _ _ e in
      let q = ⨾-right _ _ m in
      let n = stop_if_no 8 _ (⨾-left _ _ q) in (
        (record { bundle = accepted R patch (⨾-left _ _ e); name = n }, record { bundle = accepted R main (⨾-left _ _ m); name = n }),
        not_no _ (stop_if_no 9 _ (⨾-right _ _ q)),
      )

  -- ---- which answers

  module _ (asked : AskedBoth) where
    by_patch : held patch ≡ true → given ≡ found_in 1 (pick R patch device)
    unfolding answering bundle_of
    by_patch t = found asked.0.bundle asked.1.bundle asked.0.name 1 (rw t) (rw t)

    by_main : held patch ≡ false → held main ≡ true → given ≡ found_in 2 (pick R main device)
    unfolding answering bundle_of
    by_main f t = found asked.0.bundle asked.1.bundle asked.0.name 2 (rw f) (rw (f, t))

  -- one of the two does
  data Answer : Type 0 where
    from_patch : AskedBoth → held patch ≡ true → Answer
    from_main : AskedBoth → held patch ≡ false → held main ≡ true → Answer

  abbrev number_of : Answer → ℕ
  number_of (from_patch a t) = 1
  number_of (from_main a f t) = 2

  which : given.number ≡ 0 → Answer
  which e =
      let (a, some) = answered e in
      by_bool (held patch) (λ t. from_patch a t) (λ f. from_main a f (rw f at some))

  -- the pick from the bundle that answers, and the answer that is made of it
  picks : (w : Answer) → (pick R (bundle (number_of w)) device).number ≡ 0
  unfolding bundle_of
  picks (from_patch a t) = has_picks R device patch a.0 t
  picks (from_main a f t) = has_picks R device main a.1 t

  answer_is : (w : Answer) → given ≡ found_in (number_of w) (pick R (bundle (number_of w)) device)
  unfolding bundle_of
  answer_is (from_patch a t) = by_patch a t
  answer_is (from_main a f t) = by_main a f t

  -- ---- the bytes

  image-go : given.number ≡ 0 → lookup_image R patch main device ≡ picked_image R (bundle (answering R patch main device)) device
  unfolding lookup lookup_image
  image-go e = let z : stopped.number ≡ 0 = e in rw (z, lookup_image)

  image-stop : (k : ℕ) → given.number ≡ suc k → lookup_image R patch main device ≡ []
  unfolding lookup lookup_image
  image-stop k e = let z : stopped.number ≡ suc k = e in rw (z, lookup_image)

  size-stop : (k : ℕ) → given.number ≡ suc k → (given.position ≡ 0) × (given.size ≡ 0)
  unfolding lookup
  size-stop k e = (unrefused-stop stopped _ k e, unrefused-stop stopped _ k e)

  answering_is : (w : Answer) → answering R patch main device ≡ number_of w
  unfolding answering
  answering_is (from_patch a t) = rw t
  answering_is (from_main a f t) = rw f

  module _ (e : given.number ≡ 0) where
    abbrev w : ℕ
    w = number_of (which e)

    there : given ≡ found_in w (pick R (bundle w) device)
    there = answer_is (which e)

    image_here : lookup_image R patch main device ≡ picked_image R (bundle w) device
    image_here = image-go e ∙ ap (λ k. picked_image R (bundle k) device) (answering_is (which e))

    image-picked : lookup_image R patch main device ≡ picked_image R (bundle given.bundle) device
    image-picked = rw there image_here

    image-part : lookup_image R patch main device ≡ take given.size (drop given.position (bundle given.bundle))
    unfolding picked_image
    image-part = rw there image_here

    image_after : Lawful R → table_end (bundle given.bundle) ≤ given.position
    image_after L = rw there ((pick_exact R L (bundle w) device).after (picks (which e)))

    image_within : Lawful R → given.position + given.size ≤ length (bundle given.bundle)
    image_within L = rw there ((pick_exact R L (bundle w) device).within (picks (which e)))

  part_always : lookup_image R patch main device ≡ take given.size (drop given.position (bundle given.bundle))
  part_always = by given.number refl
    where
      by : (k : ℕ) → given.number ≡ k → lookup_image R patch main device ≡ take given.size (drop given.position (bundle given.bundle))
      by zero e = image-part e
      by (suc k) e = rw (size-stop k e).1 (image-stop k e)

  within_always : Lawful R → given.position + given.size ≤ length (bundle given.bundle)
  within_always L = by given.number refl
    where
      by : (k : ℕ) → given.number ≡ k → given.position + given.size ≤ length (bundle given.bundle)
      by zero e = image_within e L
      by (suc k) e = omega (arith, (size-stop k e).0, (size-stop k e).1)

  -- ---- the statement

  number : (f : Found) → given ≡ f → given.number ≡ f.number
  number f e = ap (λ (x : Found). x.number) e

  named : (f : Found) → given ≡ f → given.bundle ≡ f.bundle
  named f e = ap (λ (x : Found). x.bundle) e

  patch-only : (w : Answer) → given.bundle ≡ 1 → ((pick R patch device).number ≡ 0) × Accepted R main
  patch-only (from_patch a t) e = (has_picks R device patch a.0 t, a.1.bundle)
  patch-only (from_main a f t) e = absurd (omega (arith, e, named _ (by_main a f t)))

  main_only : (w : Answer) → given.bundle ≡ 2 → (pick R patch device ≡ refusal 10 0) × ((pick R main device).number ≡ 0)
  main_only (from_patch a t) e = absurd (omega (arith, e, named _ (by_patch a t)))
  main_only (from_main a f t) e = (hasnt_none R device patch a.0 f, has_picks R device main a.1 t)

  either : Answer → (given ≡ found_in 1 (pick R patch device)) ⊎ (given ≡ found_in 2 (pick R main device))
  either (from_patch a t) = inl (by_patch a t)
  either (from_main a f t) = inr (by_main a f t)

  none_only : AskedBoth × ((held patch ≡ false) × (held main ≡ false)) → (pick R patch device ≡ refusal 10 0) × (pick R main device ≡ refusal 10 0)
  none_only (a, h) = (hasnt_none R device patch a.0 h.0, hasnt_none R device main a.1 h.1)

  pub lookup_exact : Lawful R → LookupExact R patch main device
  unfolding check
  lookup_exact L = record {
    refused_patch = patch_refused;
    refused_main = main_refused;
    query = ((λ e. query_is (number (not_found 9 0 0) e)), (λ h. unnamed h.0 h.1.0 h.1.1));
    none = (
      (λ e. none_only (none_is (number (not_found 10 0 0) e))),
      (λ h.
          let (a, p) = none_hasnt R device patch L h.0 in
          let (b, q) = none_hasnt R device main L h.1 in
          neither a.bundle b.bundle a.name p q),
    );
    by_patch = (
      (λ e. let f = found_in 1 (pick R patch device) in patch-only (which (number f e)) (named f e)),
      (λ h. let (a, t) = picks_has R device patch h.0 in by_patch (a, record { bundle = h.1; name = a.name }) t),
    );
    by_main = (
      (λ e. let f = found_in 2 (pick R main device) in main_only (which (number f e)) (named f e)),
      (λ h.
          let (a, f) = none_hasnt R device patch L h.0 in
          let (b, t) = picks_has R device main h.1 in
          by_main (a, b) f t),
    );
    one_answers = λ e. either (which e);
    picked = image-picked;
    part = part_always;
    after = λ e. image_after e L;
    within = within_always L;
    no_part = image-stop;
  }
