-- Both spellings of one kind in a bundle and in a device name. Assumes nothing.
use Prim.Native.Nat.{ℕ, ◌<◌, ◌≤◌}
use native.Mathlib.Omega.{arith}
use mathlib.Core.Path.{◌≡◌, sym, ap, ap₂, ◌∙◌, subst}
use mathlib.Core.Bool.{Bool, true, not}
use mathlib.Core.List.{List}
use lib.Dec.{T, ltb}
use lib.ListN.{length, length-append}
use borrow.Author.Tests.{ltb-true, ltb-false}
use Rattle.wire.specs.Bytes.{bytes}
use Rattle.wire.specs.First.{first, any_below}
use Rattle.wire.specs.Stop.{◌⨾◌, stop_if, stop_at, stop_when, earlier, unrefused}
use Rattle.wire.proofs.Bools.{by_bool, clash, is_true}
use Rattle.wire.proofs.FirstLaws.{any_some}
use Rattle.wire.proofs.StopLaws.{⨾-stop, earlier_some}
use Rattle.entry_id.specs.Meaning.{meaning, valid}
use Rattle.entry_id.specs.Compare.{compatible, same_meaning}
use Rattle.entry_id.specs.Rules.{id_rules}
use Rattle.entry_id.specs.Theorems.{hip_id, hipv4_id}
use Rattle.entry_id.proofs.RuleLaws.{id_rules_lawful}
use Rattle.entry_id.proofs.Theorems.{entry_ids, one_kind}
use Rattle.bundle.specs.Table.{count, row}
use Rattle.bundle.specs.Check.{mean_same, bundle_stop, check}
use Rattle.bundle.specs.Pick.{compatible_at, chosen, pick_stop, pick}
use Rattle.bundle.specs.EitherSpelling.{EitherSpelling}
use Rattle.bundle.specs.declared.Picked.{Picked}
use Rattle.bundle.proofs.CheckLaws.{bundle_stop-own}
use Rattle.bundle.proofs.PlaceLaws.{from_7}
use Rattle.bundle.proofs.Theorems.{check_exact}
use Rattle.bundle.proofs.Demand2.{demand2}

-- ---- two entries with the same meaning

module _ (s : List ℕ) (i j : ℕ) (h : i < count s) (l : j < i) (e : mean_same id_rules (row s j) (row s i) ≡ true) where
  found : (stop_at 7 (count s) (earlier (mean_same id_rules) (row s))).number ≡ 7
  unfolding stop_at stop_when
  found = rw (any_some (count s) (earlier (mean_same id_rules) (row s)) i h (earlier_some (mean_same id_rules) (row s) i j l e))

  refused : ((check id_rules s).number ≡ 0 → ⊥) × ((check id_rules s).number ≡ 8 → ⊥)
  unfolding check
  refused = (
    (λ z. clash (mean_same id_rules (row s j) (row s i)) e (((check_exact id_rules s).accepted.0 z).sense.meant.once i h j l)),
    (λ (z : (bundle_stop id_rules s).number ≡ 8). let q : ◌≡◌ {A = ℕ} 8 7 = sym z ∙ ap (λ t. t.number) (from_7 id_rules s 7 z (omega arith) (omega arith) ∙ ⨾-stop _ _ 6 found) ∙ found in absurd (omega arith)),
  )

  by_seven : (1 ≤ (check id_rules s).number) × (7 < (check id_rules s).number → (check id_rules s).number ≡ 21)
  unfolding check
  by_seven =
      let (x, y) = refused in
      (omega (arith, x), (λ l. bundle_stop-own id_rules s (omega (arith, y))))

module _ (s t : List ℕ) (v : T (valid (hip_id t))) (w : T (valid (hipv4_id t))) where
  module _ (i j : ℕ) (p : (row s i).id ≡ hip_id t) (q : (row s j).id ≡ hipv4_id t) where
    same_rows : mean_same id_rules (row s i) (row s j) ≡ true
    same_rows =
        demand2.by_meaning.means_same (row s i) (row s j) (subst (λ x. T (valid x)) (sym p) v) (subst (λ x. T (valid x)) (sym q) w)
        ∙ ap₂ (λ x y. same_meaning (meaning x) (meaning y)) p q ∙ is_true _ (one_kind.twice t)

    rows_same : mean_same id_rules (row s j) (row s i) ≡ true
    unfolding mean_same
    rows_same = id_rules_lawful.same_sym (row s j).id (row s i).id ∙ same_rows

    two_rows : i ≡ j → ⊥
    two_rows e =
        let n = ap length (sym p ∙ ap (λ k. (row s k).id) e ∙ q) in
        omega (arith, n, length-append (bytes "hip-") t, length-append (bytes "hipv4-") t)

    twice : i < count s → j < count s → (1 ≤ (check id_rules s).number) × (7 < (check id_rules s).number → (check id_rules s).number ≡ 21)
    twice h k =
        by_bool (ltb i j)
        (λ l. by_seven s j i k (ltb-true i j l) same_rows)
        (λ l. let m = ltb-false i j l in let n = two_rows in by_seven s i j h (omega (arith, m, n)) rows_same)

  -- ---- a device name

  compatible_either : (i : ℕ) → compatible_at id_rules s (hip_id t) i ≡ compatible_at id_rules s (hipv4_id t) i
  unfolding compatible_at id_rules
  compatible_either i =
      ap (compatible _) (entry_ids.read_back (hip_id t) v) ∙ one_kind.device_either _ t ∙ sym (ap (compatible _) (entry_ids.read_back (hipv4_id t) w))

  -- what a pick makes of a name: whether it breaks the rules, and which entries are compatible
  answer : Bool → (ℕ → Bool) → Picked
  answer broken fits =
      let t = bundle_stop id_rules s ⨾ stop_if 9 broken ⨾ stop_if 10 (not (any_below (count s) fits)) in
      let i = first (count s) fits in
      record { number = t.number; place = t.place; index = unrefused t i; position = unrefused t (row s i).offset; size = unrefused t (row s i).size }

  picked : pick id_rules s (hip_id t) ≡ pick id_rules s (hipv4_id t)
  unfolding pick pick_stop chosen answer
  picked =
      ap₂ answer
      (demand2.by_meaning.name_broken (hip_id t) ∙ ap not (is_true (valid (hip_id t)) v ∙ sym (is_true (valid (hipv4_id t)) w)) ∙ sym (demand2.by_meaning.name_broken (hipv4_id t)))
      (λ k i. compatible_either i k)

pub either_spelling : EitherSpelling
either_spelling = record { twice = λ s t v w i j h k p q. twice s t v w i j p q h k; picked = picked }
