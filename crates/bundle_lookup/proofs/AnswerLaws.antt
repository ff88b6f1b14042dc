-- The answer of the lookup as the code makes it, from the picks from both bundles in turn. Assumes nothing.
use Prim.Native.Nat.{ℕ, suc, ◌<◌}
use native.Mathlib.Omega.{arith}
use mathlib.Core.Path.{◌≡◌, refl, sym, ap, subst, ◌∙◌}
use mathlib.Core.Bool.{Bool, true, false, ◌||◌, cond}
use Rattle.wire.specs.Stop.{Stop, go}
use Rattle.wire.specs.Refusals.{number_of as number_of_reason, stop_by}
use Rattle.wire.specs.declared.Reason.{Reason}
use Rattle.wire.specs.declared.Reason.TheVariants as reasons
use Rattle.wire.specs.declared.Refusal.{Refusal}
use Rattle.bundle.proofs.AcceptLaws.{accepted}
use mathlib.Core.List.{List, []}
use borrow.Author.Tests.{eq-eqb, ne_eqb}
use Rattle.wire.specs.Bytes.{empty}
use Rattle.wire.proofs.Bools.{by_bool, clash, or_true}
use Rattle.entry_id.specs.IdRules.{IdRules, Lawful}
use Rattle.bundle.specs.Check.{bundle_stop, check}
use Rattle.bundle.specs.Table.{count}
use Rattle.bundle.specs.Pick.{compatible_at, pick_stop, pick}
use Rattle.bundle.specs.Accepted.{Accepted}
use Rattle.bundle.specs.Theorems.{refusal, Asked}
use Rattle.bundle.specs.Lookup.{not_found, found_in, bundle_of, lookup, LookupExact}
use Rattle.std.specs.Bool.{then_some}
use Rattle.bundle.specs.Results.{source_number, named_number}
use Rattle.bundle.specs.declared.Source.{Source}
use Rattle.bundle.specs.declared.Checked.{Checked}
use Rattle.bundle.specs.declared.Picked.{Picked}
use Rattle.bundle.proofs.CheckLaws.{Own, bundle_stop-own}
use Rattle.bundle.proofs.PickLaws.{pick-refused, pick-query, pick-none, picked-asked, pick-image}
use Rattle.bundle.proofs.Theorems.{Case, refuses, unnamed, nothing, one, case, number_of, number_is, check_exact}
use Rattle.bundle.proofs.LookupLaws.{lookup_exact}
use Rattle.bundle_reader.proofs.RefusalLaws.{number_suc}
use Rattle.bundle_lookup.specs.Answer.{says_none, is_refused, named_by, answer_of, decided}

-- ---- the bundle that a pick's answer names, and the bundle of a number

named-own : (number k : ℕ) → (number ≡ 9 → ⊥) → (number ≡ 10 → ⊥) → k ≡ named_by number k
unfolding named_by
named-own number k q n = rw (ne_eqb number 9 q, ne_eqb number 10 n)

-- the bundle that a refusal names
pub named_is : (r : Reason) (source : Source) → named_number (then_some (is_refused (number_of_reason r)) source) ≡ named_by (number_of_reason r) (source_number source)
unfolding named_by
named_is reasons.Length source = refl
named_is reasons.Magic source = refl
named_is reasons.Count source = refl
named_is reasons.Table source = refl
named_is reasons.Id source = refl
named_is reasons.Range source = refl
named_is reasons.Twice source = refl
named_is reasons.Mixed source = refl
named_is reasons.Query source = refl
named_is reasons.None source = refl
named_is reasons.Big source = refl
named_is reasons.Room source = refl
named_is reasons.Head source = refl
named_is reasons.Span source = refl
named_is reasons.Kind source = refl
named_is reasons.Strings source = refl
named_is reasons.Image source = refl
named_is reasons.Many source = refl
named_is reasons.End source = refl
named_is reasons.Overlap source = refl
named_is reasons.Names source = refl

module _ (patch main : List ℕ) (k : ℕ) where
  pub bundle-first : k ≡ 1 → bundle_of patch main k ≡ patch
  unfolding bundle_of
  bundle-first e = rw e

  pub bundle_second : k ≡ 2 → bundle_of patch main k ≡ main
  unfolding bundle_of
  bundle_second e = rw e

  pub bundle-none : (k ≡ 1 → ⊥) → (k ≡ 2 → ⊥) → bundle_of patch main k ≡ []
  unfolding bundle_of
  bundle-none p q = rw (ne_eqb k 1 p, ne_eqb k 2 q)

-- ---- what a pick gives

-- a refusal that is the check's own names the bundle
answer-refused : (k number place : ℕ) → Own number → answer_of k (refusal number place) ≡ not_found number place k
unfolding answer_of
answer-refused k number place o = rw (← named-own number k (λ e. omega (arith, o (omega arith))) (λ e. omega (arith, o (omega arith))))

-- an image does too
answer-found : (R : IdRules) (k : ℕ) (s device : List ℕ) → (pick_stop R s device).number ≡ 0 → answer_of k (pick R s device) ≡ found_in k (pick R s device)
unfolding answer_of named_by
answer-found R k s device e = rw (pick-image R s device e)

-- ---- what two picks give

module _ (p q : Picked) where
  pub decided-first : is_refused p.number ≡ true → answer_of 1 p ≡ decided p q
  unfolding decided
  decided-first t = rw t

  module _ (f : is_refused p.number ≡ false) where
    pub decided_main : (is_refused q.number || says_none p.number) ≡ true → answer_of 2 q ≡ decided p q
    unfolding decided
    decided_main t = rw (f, t)

    pub decided-patch : (is_refused q.number || says_none p.number) ≡ false → answer_of 1 p ≡ decided p q
    unfolding decided
    decided-patch g = rw (f, g)

-- ---- a pick, by its case

module _ (R : IdRules) (s device : List ℕ) where
  -- what the check refuses has none of the three numbers
  refuses_own : (k : ℕ) → (bundle_stop R s).number ≡ suc k → is_refused (suc k) ≡ true
  refuses_own k e =
      let o : Own (suc k) = subst Own e (bundle_stop-own R s) in
      rw (ne_eqb (suc k) 0 (λ n. omega arith), ne_eqb (suc k) 9 (λ n. omega (arith, o (omega arith))), ne_eqb (suc k) 10 (λ n. omega (arith, o (omega arith))))

  -- a pick asked of its number, in the case that it has
  asked : (ask : ℕ → Bool) (b : Bool) (c : Case R s device) → ask (number_of R s device c) ≡ b → ask (pick R s device).number ≡ b
  asked ask b c e = ap ask (number_is R s device c) ∙ e

module _ (R : IdRules) (L : Lawful R) (patch main device : List ℕ) where
  abbrev exact : LookupExact R patch main device
  exact = lookup_exact R patch main device L

  abbrev first : Picked
  first = pick R patch device

  -- the pick from the main bundle where the patch says NONE; else what the check refuses it by, or 0
  abbrev second : Picked
  second = cond (says_none (pick R patch device).number) (pick R main device) (refusal (check R main).number (check R main).place)

  abbrev Gives : Type 0
  Gives = decided first second ≡ lookup R patch main device

  -- ---- what comes of the main bundle

  second_none : says_none (pick R patch device).number ≡ true → second ≡ pick R main device
  second_none t = rw t

  second_other : says_none (pick R patch device).number ≡ false → second ≡ refusal (check R main).number (check R main).place
  second_other f = rw f

  second_refused : (k : ℕ) → (bundle_stop R main).number ≡ suc k → second ≡ refusal (bundle_stop R main).number (bundle_stop R main).place
  unfolding check
  second_refused k e =
      by_bool (says_none (pick R patch device).number) (λ t. second_none t ∙ pick-refused R main device k e) (λ f. second_other f)

  -- an accepted one that is only checked
  second_checked : Accepted R main → says_none (pick R patch device).number ≡ false → second ≡ refusal 0 0
  second_checked b f = second_other f ∙ ap (λ (c : Checked). refusal c.number c.place) ((check_exact R main).counted b)

  -- ---- by the cases of both

  gives : (q : Picked) → second ≡ q → decided (pick R patch device) q ≡ lookup R patch main device → Gives
  gives q e h = ap (decided first) e ∙ h

  main_stops : Accepted R patch → is_refused (pick R patch device).number ≡ false → (k : ℕ) → (bundle_stop R main).number ≡ suc k → Gives
  unfolding check
  main_stops a f k e =
      let n : is_refused (bundle_stop R main).number ≡ true = ap is_refused e ∙ refuses_own R main device k e in
      gives _ (second_refused k e)
      (sym (decided_main _ (refusal (bundle_stop R main).number (bundle_stop R main).place) f (rw n)) ∙ answer-refused 2 _ _ (bundle_stop-own R main) ∙ sym (exact.refused_main a k e))

  -- the patch has an answer, and the main bundle is accepted
  patch_stays : (c : Case R patch device) → is_refused (number_of R patch device c) ≡ false → says_none (number_of R patch device c) ≡ false → Accepted R main
      → answer_of 1 (pick R patch device) ≡ lookup R patch main device → Gives
  patch_stays c f n b h =
      let none = asked R patch device says_none false c n in
      gives _ (second_checked b none) (sym (decided-patch _ (refusal 0 0) (asked R patch device is_refused false c f) none) ∙ h)

  -- the patch says NONE
  module _ (a : Asked R patch device) (h : (i : ℕ) → i < count patch → compatible_at R patch device i ≡ false) where
    none_main : answer_of 2 (pick R main device) ≡ lookup R patch main device → Gives
    none_main e =
        let none = asked R patch device says_none true (nothing a h) refl in
        gives _ (second_none none)
        (sym (decided_main _ _ (asked R patch device is_refused false (nothing a h) refl) (rw none (or_true (is_refused (pick R main device).number)))) ∙ e)

    says : pick R patch device ≡ refusal 10 0
    says = pick-none R patch device a h

  query_stays : (a : Accepted R patch) → Accepted R main → empty (R.canon device) ≡ true → Gives
  unfolding answer_of named_by
  query_stays a b q = patch_stays (unnamed a q) refl refl b (ap (answer_of 1) (pick-query R patch device a q) ∙ sym (exact.query.1 (a, (b, q))))

  image_stays : (pick_stop R patch device).number ≡ 0 → Accepted R main → Gives
  unfolding pick
  image_stays e b = patch_stays (one e) refl refl b (answer-found R 1 patch device e ∙ sym (exact.by_patch.1 (e, b)))

  by_cases : Case R patch device → Case R main device → Gives
  unfolding check pick answer_of named_by
  by_cases (refuses k e) d =
      gives second refl
      (sym (decided-first _ second (asked R patch device is_refused true (refuses k e) (refuses_own R patch device k e)))
      ∙ ap (answer_of 1) (pick-refused R patch device k e)
      ∙ answer-refused 1 _ _ (bundle_stop-own R patch)
      ∙ sym (exact.refused_patch k e))
  by_cases (unnamed a q) (refuses k e) = main_stops a (asked R patch device is_refused false (unnamed a q) refl) k e
  by_cases (unnamed a q) (unnamed b r) = query_stays a b q
  by_cases (unnamed a q) (nothing b g) = query_stays a b.bundle q
  by_cases (unnamed a q) (one e) = query_stays a (picked-asked R main device e).bundle q
  by_cases (nothing a h) (refuses k e) = main_stops a.bundle (asked R patch device is_refused false (nothing a h) refl) k e
  by_cases (nothing a h) (unnamed b q) = clash _ q a.name
  by_cases (nothing a h) (nothing b g) =
      none_main a h (ap (answer_of 2) (pick-none R main device b g) ∙ sym (exact.none.1 (says a h, pick-none R main device b g)))
  by_cases (nothing a h) (one e) = none_main a h (answer-found R 2 main device e ∙ sym (exact.by_main.1 (says a h, e)))
  by_cases (one e) (refuses k f) = main_stops (picked-asked R patch device e).bundle (asked R patch device is_refused false (one e) refl) k f
  by_cases (one e) (unnamed b q) = image_stays e b
  by_cases (one e) (nothing b g) = image_stays e b.bundle
  by_cases (one e) (one f) = image_stays e (picked-asked R main device f).bundle

  decided_is : Gives
  decided_is = by_cases (case R patch device) (case R main device)

  -- ---- by what comes of the two in turn

  -- the patch says NONE
  pub found_second : first.number ≡ 10 → (q : Picked) → q ≡ pick R main device → answer_of 2 q ≡ lookup R patch main device
  found_second z q e =
      let t : says_none first.number ≡ true = eq-eqb first.number 10 z in
      ap (answer_of 2) (e ∙ sym (second_none t))
      ∙ decided_main first second (rw z) (ap (λ b. is_refused second.number || b) t ∙ or_true (is_refused second.number))
      ∙ decided_is

  module _ (other : first.number ≡ 10 → ⊥) where
    f : says_none first.number ≡ false
    f = ne_eqb first.number 10 other

    pub found_first : is_refused first.number ≡ true → answer_of 1 first ≡ lookup R patch main device
    found_first t = decided-first first second t ∙ decided_is

    module _ (stays : is_refused first.number ≡ false) where
      pub found_main : (r : Refusal) → stop_by r ≡ bundle_stop R main → answer_of 2 (refusal (number_of_reason r.reason) r.place) ≡ lookup R patch main device
      found_main r e =
          let (k, q) = number_suc r.reason in
          let n : (bundle_stop R main).number ≡ suc k = ap (λ (t : Stop). t.number) (sym e) ∙ q in
          let w : second ≡ refusal (number_of_reason r.reason) r.place = second_refused k n ∙ ap (λ (t : Stop). refusal t.number t.place) (sym e) in
          let t : is_refused second.number ≡ true = ap (λ (p : Picked). is_refused p.number) w ∙ ap is_refused q ∙ refuses_own R main device k n in
          ap (answer_of 2) (sym w) ∙ decided_main first second stays (ap (λ b. b || says_none first.number) t) ∙ decided_is

      pub found_patch : go ≡ bundle_stop R main → answer_of 1 first ≡ lookup R patch main device
      found_patch e =
          let w : second ≡ refusal 0 0 = second_checked (accepted R main (ap (λ (t : Stop). t.number) (sym e))) f in
          decided-patch first second stays (ap (λ (p : Picked). is_refused p.number || says_none first.number) w ∙ f) ∙ decided_is
