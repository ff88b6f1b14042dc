-- A bundle that passes 1 to 4 answers by its length and the bytes before its table's end alone. Assumes nothing.
use Prim.Native.Nat.{ℕ, zero, suc, ◌+◌, ◌-◌, ◌<◌, ◌≤◌}
use native.Mathlib.Omega.{arith}
use native.Mathlib.Nat.{add-zero, add-suc}
use mathlib.Core.Path.{◌≡◌, refl, sym, ap, ◌∙◌}
use mathlib.Core.List.{List}
use lib.ListN.{length, get_or, take, drop, length-take, length-drop}
use lib.Seq.{ext_get_or, get_or-take, get_or-drop}
use Rattle.wire.specs.Word.{word}
use Rattle.wire.specs.Stop.{earlier}
use Rattle.wire.proofs.WordLaws.{word-agree}
use Rattle.wire.proofs.FirstLaws.{first-same, any_same}
use Rattle.wire.proofs.StopLaws.{stop_at_same, earlier-same}
use Rattle.entry_id.specs.IdRules.{IdRules}
use Rattle.bundle.specs.Table.{count, row_start, row, row_at, table_end}
use Rattle.bundle.specs.Check.{overlaps, overlap_stop, bundle_stop, check}
use Rattle.bundle.specs.Pick.{compatible_at, chosen, pick_stop, pick}
use Rattle.bundle.specs.Accepted.{RowFits, Framed}
use Rattle.bundle.proofs.AcceptLaws.{head_go, table-go, rows_stop-same}
use Rattle.bundle.proofs.PickLaws.{refused_by_lem, chosen_lt}

-- a part of two lists that agree there
pub part-agree : (s t : List ℕ) (from n : ℕ) → length s ≡ length t → ((k : ℕ) → k < n → get_or s (from + k) 0 ≡ get_or t (from + k) 0)
    → take n (drop from s) ≡ take n (drop from t)
part-agree s t from n e h =
    ext_get_or 0 (take n (drop from s)) (take n (drop from t)) (simp (length-take, length-drop) (rw e))
    (λ i l.
    let b : i < n = omega (arith, simp (length-take, length-drop) at l) in
    get_or-take n (drop from s) i 0 b ∙ get_or-drop from s i 0 ∙ h i b ∙ sym (get_or-drop from t i 0) ∙ sym (get_or-take n (drop from t) i 0 b))

pub row_start_step : (s : List ℕ) (i : ℕ) → row_start s (suc i) ≡ row_start s i + 24 + word 8 s (row_start s i + 16)
unfolding row_start
row_start_step s i = refl

row_start_add : (s : List ℕ) (i k : ℕ) → row_start s i ≤ row_start s (i + k)
row_start_add s i zero = rw add-zero (omega arith)
row_start_add s i (suc k) = rw (add-suc i k) (omega (arith, row_start_step s (i + k), row_start_add s i k))

pub row_start_mono : (s : List ℕ) (i j : ℕ) → i ≤ j → row_start s i ≤ row_start s j
row_start_mono s i j h = let e : i + (j - i) ≡ j = omega arith in rw e at (row_start_add s i (j - i))

module _ (s t : List ℕ) (f : Framed s) (len : length s ≡ length t) (agree : (k : ℕ) → k < table_end s → get_or s k 0 ≡ get_or t k 0) where
  before : (i : ℕ) → i ≤ count s → row_start s i ≤ table_end s
  unfolding table_end
  before i h = row_start_mono s i (count s) h

  start : 32 ≤ table_end s
  unfolding row_start
  start = before 0 (omega arith)

  -- a number that lies before the table's end
  word_same : (at : ℕ) → at + 8 ≤ table_end s → word 8 s at ≡ word 8 t at
  word_same at h = word-agree 8 s t at (λ k l. agree (at + k) (omega arith))

  count_same : count s ≡ count t
  unfolding count
  count_same = word_same 24 (omega (arith, start))

  row_start-same : (i : ℕ) → i ≤ count s → row_start s i ≡ row_start t i
  unfolding row_start
  row_start-same zero h = refl
  row_start-same (suc i) h =
      let e : row_start s i ≡ row_start t i = row_start-same i (omega arith) in
      let w : word 8 s (row_start s i + 16) ≡ word 8 t (row_start s i + 16) = word_same (row_start s i + 16) (omega (arith, row_start_step s i, before (suc i) h)) in
      rw (w, e)

  end_same : table_end s ≡ table_end t
  unfolding table_end
  end_same = row_start-same (count s) (omega arith) ∙ ap (row_start t) count_same

  row_same : (i : ℕ) → i < count s → row s i ≡ row t i
  unfolding row row_at
  row_same i h =
      let e : row_start s i ≡ row_start t i = row_start-same i (omega arith) in
      let b = before (suc i) h in
      let a = word_same (row_start s i) (omega (arith, row_start_step s i)) in
      let z = word_same (row_start s i + 8) (omega (arith, row_start_step s i)) in
      let l = word_same (row_start s i + 16) (omega (arith, row_start_step s i)) in
      let d : take (word 8 s (row_start s i + 16)) (drop (row_start s i + 24) s) ≡ take (word 8 s (row_start s i + 16)) (drop (row_start s i + 24) t) =
      part-agree s t (row_start s i + 24) (word 8 s (row_start s i + 16)) len (λ k m. agree (row_start s i + 24 + k) (omega (arith, row_start_step s i))) in
      rw (← e) (λ k. record { offset = a k; size = z k; id = (d ∙ ap (λ n. take n (drop (row_start s i + 24) t)) l) k })

  row_fits_same : (i : ℕ) → i < count s → RowFits t (row_start t i)
  row_fits_same i h =
      let r : RowFits s (row_start s i) = f.rows i h in
      let l : word 8 s (row_start s i + 16) ≡ word 8 t (row_start s i + 16) = word_same (row_start s i + 16) (omega (arith, row_start_step s i, before (suc i) h)) in
      rw (← row_start-same i (omega arith)) (record { head_in = omega (arith, r.head_in); id_some = omega (arith, r.id_some); id_short = omega (arith, r.id_short); id_in = omega (arith, r.id_in) })

  framed-same : Framed t
  framed-same = record {
    fits = omega (arith, f.fits);
    magical = sym (part-agree s t 0 24 len (λ k m. agree (0 + k) (omega (arith, start)))) ∙ f.magical;
    long = omega (arith, f.long);
    few = omega (arith, count_same, f.few);
    rows = λ i h. row_fits_same i (omega (arith, count_same));
  }

  module _ (R : IdRules) where
    overlap_stop-same : overlap_stop (count s) (row s) ≡ overlap_stop (count s) (row t)
    unfolding overlap_stop
    overlap_stop-same = stop_at_same 21 (count s) (earlier overlaps (row s)) (earlier overlaps (row t)) (earlier-same overlaps (count s) (row s) (row t) row_same)

    bundle_stop-same : bundle_stop R s ≡ bundle_stop R t
    unfolding bundle_stop
    bundle_stop-same =
        rw (head_go s f, head_go t framed-same, table-go s f, table-go t framed-same, ← end_same, ← len, ← count_same, overlap_stop-same, rows_stop-same R _ (table_end s) (length s) (count s) (row s) (row t) row_same)

    pub check-same : check R s ≡ check R t
    unfolding check
    check-same = rw (bundle_stop-same, count_same)

    compatible_at-same : (device : List ℕ) (i : ℕ) → i < count s → compatible_at R s device i ≡ compatible_at R t device i
    unfolding compatible_at
    compatible_at-same device i h = ap (λ r. R.compatible (R.canon r.id) (R.canon device)) (row_same i h)

    pick_stop-same : (device : List ℕ) → pick_stop R s device ≡ pick_stop R t device
    unfolding pick_stop
    pick_stop-same device = rw (bundle_stop-same, ← count_same, any_same (count s) (compatible_at R s device) (compatible_at R t device) (compatible_at-same device))

    chosen-same : (device : List ℕ) → chosen R s device ≡ chosen R t device
    unfolding chosen
    chosen-same device = rw (← count_same, first-same (count s) (compatible_at R s device) (compatible_at R t device) (compatible_at-same device))

    pub pick_same : (device : List ℕ) → pick R s device ≡ pick R t device
    unfolding pick
    pick_same device = cases (pick_stop R s device).number refl
      where
        cases : (n : ℕ) → (pick_stop R s device).number ≡ n → pick R s device ≡ pick R t device
        cases zero e = rw (← pick_stop-same device, ← chosen-same device, row_same (chosen R s device) (chosen_lt R s device e))
        cases (suc k) e =
            let e' : (pick_stop R t device).number ≡ suc k = ap (λ z. z.number) (sym (pick_stop-same device)) ∙ e in
            refused_by_lem R s device (pick_stop R t device) k (pick_stop-same device) e' ∙ sym (refused_by_lem R t device (pick_stop R t device) k refl e')
