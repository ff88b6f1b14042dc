-- An entry by its index, case by case. Assumes nothing.
use Prim.Native.Nat.{ℕ, suc, ◌+◌, ◌<◌, ◌≤◌}
use native.Mathlib.Omega.{arith}
use mathlib.Core.Path.{◌≡◌, refl, sym, ap, ◌∙◌}
use mathlib.Core.List.{List}
use lib.ListN.{length, take, drop, length-drop}
use lib.Seq.{length-take-le}
use borrow.Author.Tests.{ltb-true, ltb-false, lt-ltb, le-ltb, not-true}
use Rattle.wire.specs.Stop.{Stop, go, stop, ◌⨾◌, stop_if, stop_when, unrefused}
use Rattle.wire.specs.Word.{word}
use Rattle.wire.proofs.Bools.{not_no, yes_not}
use Rattle.wire.proofs.StopLaws.{⨾-both, ⨾-left, ⨾-right, ⨾-stop, stop_if-go, stop_if_no, stop_if_yes, unrefused-stop}
use Rattle.entry_id.specs.IdRules.{IdRules}
use Rattle.bundle.specs.Table.{count, row_start, row, row_at, table_end}
use Rattle.bundle.specs.Check.{bundle_stop, check}
use Rattle.bundle.specs.Entry.{image_of}
use Rattle.bundle.specs.Pick.{chosen, pick_stop, pick}
use Rattle.bundle.specs.Accepted.{RowFits, Accepted}
use Rattle.bundle.specs.Theorems.{image_at}
use Rattle.bundle.specs.EntryAt.{entry_stop, entry_at, unlocated, located, pick_of, Names, EntryExact}
use Rattle.bundle.specs.declared.Located.{Located}
use Rattle.bundle.specs.declared.Picked.{Picked}
use Rattle.bundle.proofs.AcceptLaws.{accepted, accepted-go, past-check}
use Rattle.bundle.proofs.PickLaws.{picked-asked, chosen_lt, pick-image}
use Rattle.bundle.proofs.TableLaws.{row_start_step, row_start_mono}

-- an ID that lies inside has the length that its row states
pub length-id : (s : List ℕ) (at : ℕ) → RowFits s at → length (row_at s at).id ≡ word 8 s (at + 16)
unfolding row_at
length-id s at f = length-take-le (word 8 s (at + 16)) (drop (at + 24) s) (omega (arith, length-drop (at + 24) s, f.id_in))

module _ (R : IdRules) (s : List ℕ) (i : ℕ) where
  refused_by_lem : (t : Stop) (k : ℕ) → entry_stop R s i ≡ t → t.number ≡ suc k → entry_at R s i ≡ unlocated t.number t.place
  unfolding entry_at
  refused_by_lem t k p e =
      let z : (v : ℕ) → unrefused t v ≡ 0 = λ v. unrefused-stop t v k e in
      let l = located s i in
      rw (p, z l.position, z l.size, z l.id_position, z l.id_length)

  entry-refused : (k : ℕ) → (bundle_stop R s).number ≡ suc k → entry_at R s i ≡ unlocated (bundle_stop R s).number (bundle_stop R s).place
  unfolding entry_stop
  entry-refused k e = refused_by_lem (bundle_stop R s) k (⨾-stop _ _ k e) e

  entry-none : Accepted R s → count s ≤ i → entry_at R s i ≡ unlocated 10 0
  unfolding entry_stop stop_if stop_when ◌⨾◌
  entry-none a h = refused_by_lem (stop 10 0) 9 (rw (accepted-go R s a, le-ltb i (count s) h)) refl

  entry_found : Accepted R s → i < count s → entry_at R s i ≡ located s i
  unfolding entry_at entry_stop unrefused
  entry_found a h =
      let e : entry_stop R s i ≡ go = ⨾-both _ _ (accepted-go R s a) (stop_if-go 10 _ (yes_not _ (lt-ltb i (count s) h))) in
      rw e

  -- an answer with number 0 is an entry
  entry_is : (entry_at R s i).number ≡ 0 → Accepted R s × (i < count s)
  unfolding entry_at entry_stop
  entry_is e = (accepted R s (⨾-left _ _ e), ltb-true i (count s) (not_no _ (stop_if_no 9 _ (⨾-right _ _ e))))

  none_is : (entry_at R s i).number ≡ 10 → Accepted R s × (count s ≤ i)
  unfolding entry_at entry_stop
  none_is e = let p = past-check R s _ 10 (λ o. omega (arith, o (omega arith))) e in (p.0, ltb-false i (count s) (not-true _ (stop_if_yes 9 _ p.1)))

  -- ---- the bytes

  module _ (a : Accepted R s) (h : i < count s) where
    id-length : length (row s i).id ≡ word 8 s (row_start s i + 16)
    unfolding row
    id-length = length-id s (row_start s i) (a.frame.rows i h)

    id_here : take (length (row s i).id) (drop (row_start s i + 24) s) ≡ (row s i).id
    unfolding row row_at
    id_here = ap (λ n. take n (drop (row_start s i + 24) s)) id-length

    located-names : Names s i (located s i)
    unfolding table_end image_of
    located-names = record {
      id = id_here;
      id_within = omega (arith, id-length, row_start_step s i, row_start_mono s (suc i) (count s) (omega arith));
      image = refl;
      image_after = (a.sense.in_range i h).after;
      image_within = (a.sense.in_range i h).within;
    }

  entry-names : (entry_at R s i).number ≡ 0 → Names s i (entry_at R s i)
  entry-names e = let p = entry_is e in rw (entry_found p.0 p.1) (located-names p.0 p.1)

  entry-picked : (device : List ℕ) → (pick R s device).number ≡ 0 → (pick R s device).index ≡ i → pick R s device ≡ pick_of i (entry_at R s i)
  unfolding pick
  entry-picked device e q =
      let z : (pick_stop R s device).number ≡ 0 = e in
      let c : chosen R s device ≡ i = ap (λ (p : Picked). p.index) (sym (pick-image R s device z)) ∙ q in
      let h : i < count s = omega (arith, c, chosen_lt R s device z) in
      pick-image R s device z ∙ ap (image_at s) c ∙ sym (ap (pick_of i) (entry_found (picked-asked R s device z).bundle h))

pub entry_exact : (R : IdRules) (s : List ℕ) (i : ℕ) → EntryExact R s i
unfolding check
entry_exact R s i = record {
  refused = λ k e. entry-refused R s i k e;
  none = ((λ e. none_is R s i (ap (λ (x : Located). x.number) e)), (λ h. entry-none R s i h.0 h.1));
  found = ((λ e. entry_is R s i (ap (λ (x : Located). x.number) e)), (λ h. entry_found R s i h.0 h.1));
  names = entry-names R s i;
  picked = entry-picked R s i;
}
