-- The theorems of `specs/Theorems`. Assumes nothing.
use Prim.Native.Nat.{ℕ, zero, suc, ◌+◌, ◌<◌, ◌≤◌}
use native.Mathlib.Omega.{arith}
use mathlib.Core.Path.{◌≡◌, refl, sym, ap, ◌∙◌}
use mathlib.Core.Bool.{true, false}
use mathlib.Core.List.{List}
use lib.ListN.{length, get_or, take, drop}
use lib.Seq.{get_or-take}
use Rattle.wire.specs.Bytes.{empty}
use Rattle.wire.specs.Stop.{Stop, unrefused}
use Rattle.wire.specs.First.{any_below}
use Rattle.wire.proofs.Bools.{by_bool}
use Rattle.wire.proofs.FirstLaws.{none_any}
use Rattle.wire.proofs.StopLaws.{⨾-left, ⨾-right, ⨾-both, unrefused-stop}
use Rattle.entry_id.specs.IdRules.{IdRules, Lawful}
use Rattle.bundle.specs.Table.{count, row, table_end}
use Rattle.bundle.specs.Check.{head_stop, table_stop, bundle_stop, check}
use Rattle.bundle.specs.Entry.{no_entry, image_of, entry_of, entries}
use Rattle.bundle.specs.Pick.{compatible_at, chosen, pick_stop, pick}
use Rattle.bundle.specs.Accepted.{Accepted, Inside}
use Rattle.bundle.specs.Theorems.{CheckExact, refusal, image_at, Asked, PickExact, FramedExact, TableDecides}
use Rattle.bundle.specs.declared.Picked.{Picked}
use Rattle.bundle.proofs.CheckLaws.{bundle_stop-own}
use Rattle.bundle.proofs.AcceptLaws.{framed, head_go, table-go, accepted, accepted-go}
use Rattle.bundle.proofs.EntryLaws.{entries_at}
use Rattle.bundle.proofs.PickLaws.{pick-refused, pick-query, pick-none, pick_stop-go, picked-asked, chosen_lt, chosen-compatible, pick-image, compatible-one, pick-found}
use Rattle.bundle.proofs.TableLaws.{check-same, pick_same}

pub check_exact : (R : IdRules) (s : List ℕ) → CheckExact R s
unfolding check unrefused
check_exact R s = record {
  accepted = ((λ e. accepted R s e), (λ a. ap (λ t. t.number) (accepted-go R s a)));
  counted = λ a. rw (accepted-go R s a);
  uncounted = λ k e. unrefused-stop (bundle_stop R s) (count s) k e;
}

module _ (R : IdRules) (s device : List ℕ) where
  -- the four cases of a pick
  pub data Case : Type 0 where
    refuses : (k : ℕ) → (bundle_stop R s).number ≡ suc k → Case
    unnamed : Accepted R s → empty (R.canon device) ≡ true → Case
    nothing : Asked R s device → ((i : ℕ) → i < count s → compatible_at R s device i ≡ false) → Case
    one : (pick_stop R s device).number ≡ 0 → Case

  pub case : Case
  case = by (bundle_stop R s).number refl
    where
      asked : Asked R s device → Case
      asked a =
          by_bool (any_below (count s) (compatible_at R s device))
          (λ t. one (ap (λ (z : Stop). z.number) (pick_stop-go R s device a t)))
          (λ f. nothing a (none_any (count s) (compatible_at R s device) f))

      by : (n : ℕ) → (bundle_stop R s).number ≡ n → Case
      by zero e = let a = accepted R s e in by_bool (empty (R.canon device)) (λ t. unnamed a t) (λ f. asked (record { bundle = a; name = f }))
      by (suc k) e = refuses k e

  -- the number that each case has
  abbrev pub number_of : Case → ℕ
  number_of (refuses k e) = suc k
  number_of (unnamed a q) = 9
  number_of (nothing a h) = 10
  number_of (one e) = 0

  pub number_is : (c : Case) → (pick R s device).number ≡ number_of c
  unfolding pick
  number_is (refuses k e) = ap (λ (p : Picked). p.number) (pick-refused R s device k e) ∙ e
  number_is (unnamed a q) = ap (λ (p : Picked). p.number) (pick-query R s device a q)
  number_is (nothing a h) = ap (λ (p : Picked). p.number) (pick-none R s device a h)
  number_is (one e) = e

  query-only : (c : Case) → number_of c ≡ 9 → Accepted R s × (empty (R.canon device) ≡ true)
  query-only (refuses k e) n = absurd (omega (arith, bundle_stop-own R s (omega (arith, e, n)), e, n))
  query-only (unnamed a q) n = (a, q)
  query-only (nothing a h) n = absurd (omega arith)
  query-only (one e) n = absurd (omega arith)

  none_only : (c : Case) → number_of c ≡ 10 → Asked R s device × ((i : ℕ) → i < count s → compatible_at R s device i ≡ false)
  none_only (refuses k e) n = absurd (omega (arith, bundle_stop-own R s (omega (arith, e, n)), e, n))
  none_only (unnamed a q) n = absurd (omega arith)
  none_only (nothing a h) n = (a, h)
  none_only (one e) n = absurd (omega arith)

  numbered : (p : Picked) → pick R s device ≡ p → number_of case ≡ p.number
  numbered p e = sym (number_is case) ∙ ap (λ (q : Picked). q.number) e

  image-only : (i : ℕ) → pick R s device ≡ image_at s i → Asked R s device × ((i < count s) × (compatible_at R s device i ≡ true))
  unfolding pick
  image-only i e =
      let z : (pick_stop R s device).number ≡ 0 = ap (λ (p : Picked). p.number) e in
      let c : chosen R s device ≡ i = ap (λ (p : Picked). p.index) (sym (pick-image R s device z) ∙ e) in
      (picked-asked R s device z, (rw c at (chosen_lt R s device z), rw c at (chosen-compatible R s device z)))

  module _ (e : (pick R s device).number ≡ 0) where
    stopless : (pick_stop R s device).number ≡ 0
    unfolding pick
    stopless = e

    chosen_inside : Inside (table_end s) (length s) (row s (chosen R s device)).offset (row s (chosen R s device)).size
    chosen_inside = (picked-asked R s device stopless).bundle.sense.in_range (chosen R s device) (chosen_lt R s device stopless)

    image_after : table_end s ≤ (pick R s device).position
    image_after = rw (pick-image R s device stopless) chosen_inside.after

    image_within : (pick R s device).position + (pick R s device).size ≤ length s
    image_within = rw (pick-image R s device stopless) chosen_inside.within

    image-bytes : take (pick R s device).size (drop (pick R s device).position s) ≡ (get_or (entries R s) (pick R s device).index no_entry).image
    unfolding entry_of image_of
    image-bytes = rw (pick-image R s device stopless, entries_at R s (count s) (row s) (chosen R s device) (chosen_lt R s device stopless))

pub pick_exact : (R : IdRules) → Lawful R → (s device : List ℕ) → PickExact R s device
unfolding check
pick_exact R L s device = record {
  refused = λ k e. pick-refused R s device k e;
  query = ((λ e. query-only R s device (case R s device) (numbered R s device (refusal 9 0) e)), (λ h. pick-query R s device h.0 h.1));
  none = ((λ e. none_only R s device (case R s device) (numbered R s device (refusal 10 0) e)), (λ h. pick-none R s device h.0 h.1));
  image = λ i. ((λ e. image-only R s device i e), (λ h. pick-found R L s device h.0 i h.1.0 h.1.1));
  one = λ a. compatible-one R L s device a;
  after = image_after R s device;
  within = image_within R s device;
  bytes = image-bytes R s device;
}

pub table_decides : (R : IdRules) → TableDecides R
table_decides R s t f l h =
    let agree : (k : ℕ) → k < table_end s → get_or s k 0 ≡ get_or t k 0 =
    λ k b. sym (get_or-take (table_end s) s k 0 b) ∙ ap (λ (z : List ℕ). get_or z k 0) h ∙ get_or-take (table_end s) t k 0 b in
    record { checks = check-same s t f l agree R; picks = pick_same s t f l agree R }

pub framed_exact : (s : List ℕ) → FramedExact s
framed_exact s = (
  (λ e. framed s (⨾-left (head_stop s) (table_stop s) e) (⨾-right (head_stop s) (table_stop s) e)),
  (λ f. ap (λ t. t.number) (⨾-both (head_stop s) (table_stop s) (head_go s f) (table-go s f))),
)
