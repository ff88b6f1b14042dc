-- An accepted bundle keeps each rule, and a bundle that keeps each rule is accepted. Assumes nothing.
use Prim.Native.Nat.{ℕ, zero, suc, ◌<◌, ◌≤◌}
use mathlib.Core.Path.{◌≡◌, refl, sym, ap, ◌∙◌, subst}
use mathlib.Core.List.{List}
use lib.ListN.{length, take}
use borrow.Author.Tests.{ltb-false, le-ltb}
use Rattle.wire.specs.Bytes.{same}
use Rattle.wire.specs.Limit.{limit}
use Rattle.wire.specs.Stop.{Stop, go, ◌⨾◌, stop_at, earlier}
use Rattle.wire.proofs.Bools.{or_neither, neither_or, not_no, yes_not}
use Rattle.wire.proofs.ByteLaws.{same_true, eq_same}
use Rattle.wire.proofs.StopLaws.{⨾-both, ⨾-left, ⨾-right, ⨾-next, ⨾-stop, stop_if-go, stop_if_no, stop_at_go, stop_at_no, stop_at_same, earlier-same, earlier-none, none-earlier}
use Rattle.entry_id.specs.IdRules.{IdRules}
use Rattle.bundle.specs.Table.{Row, magic, count, row_start, row}
use Rattle.bundle.specs.Check.{outside, overlap_stop, head_stop, table_stop, rows_stop, bundle_stop, bad_id, mean_same, mix}
use Rattle.bundle.specs.Accepted.{Framed, Meant, Sound, Accepted}
use Rattle.bundle.proofs.CheckLaws.{Own, bundle_stop-own, row_fits, inside}

pub counted : (s : List ℕ) → (head_stop s).number ≡ 0 → (32 ≤ length s) × (count s ≤ 64)
unfolding head_stop
counted s e = let o = or_neither _ _ (stop_if_no 2 _ (⨾-right _ _ (⨾-right _ _ e))) in (ltb-false _ _ o.0, ltb-false _ _ o.1)

pub sized : (s : List ℕ) → (head_stop s).number ≡ 0 → length s ≤ limit
unfolding head_stop
sized s e = ltb-false _ _ (stop_if_no 0 _ (⨾-left _ _ e))

pub framed : (s : List ℕ) → (head_stop s).number ≡ 0 → (table_stop s).number ≡ 0 → Framed s
unfolding head_stop table_stop
framed s e t = record {
  fits = sized s e;
  magical = same_true _ _ (not_no _ (stop_if_no 1 _ (⨾-left _ _ (⨾-right _ _ e))));
  long = (counted s e).0;
  few = (counted s e).1;
  rows = λ i h. (row_fits s (row_start s i)).0 (stop_at_no 3 _ _ t i h);
}

pub head_go : (s : List ℕ) → Framed s → head_stop s ≡ go
unfolding head_stop
head_go s f =
    ⨾-both _ _ (stop_if-go 1 _ (le-ltb _ _ f.fits))
    (⨾-both _ _ (stop_if-go 2 _ (yes_not (same (take 24 s) magic) (eq_same _ _ f.magical)))
    (stop_if-go 3 _ (neither_or _ _ (le-ltb _ _ f.long) (le-ltb _ _ f.few))))

pub table-go : (s : List ℕ) → Framed s → table_stop s ≡ go
unfolding table_stop
table-go s f = stop_at_go 4 _ _ (λ i h. (row_fits s (row_start s i)).1 (f.rows i h))

module _ (R : IdRules) where
  pub meant : (n : ℕ) (rows : ℕ → Row)
      → (stop_at 5 n (λ i. bad_id R (rows i))).number ≡ 0 → (stop_at 7 n (earlier (mean_same R) rows)).number ≡ 0 → (stop_at 8 n (earlier (mix R) rows)).number ≡ 0
      → Meant R n rows
  meant n rows p q r = record {
    named = stop_at_no 4 _ _ p;
    once = λ i h. none-earlier _ rows i (stop_at_no 6 _ _ q i h);
    unmixed = λ i h. none-earlier _ rows i (stop_at_no 7 _ _ r i h);
  }

  pub sound : (between : Stop) (end len n : ℕ) (rows : ℕ → Row) → (rows_stop R between end len n rows).number ≡ 0 → Sound R end len n rows × (between.number ≡ 0)
  unfolding rows_stop
  sound between end len n rows e =
      let e₂ = ⨾-right _ _ e in
      let b = ⨾-right _ _ e₂ in
      let e₃ = ⨾-right _ _ b in (
        record {
          meant = meant n rows (⨾-left _ _ e) (⨾-left _ _ e₃) (⨾-right _ _ e₃);
          in_range = λ i h. (inside end len _ _).0 (stop_at_no 5 _ _ (⨾-left _ _ e₂) i h);
        },
        ⨾-left _ _ b,
      )

  pub sound_go : (between : Stop) (end len n : ℕ) (rows : ℕ → Row) → Sound R end len n rows → between ≡ go → rows_stop R between end len n rows ≡ go
  unfolding rows_stop
  sound_go between end len n rows f b =
      ⨾-both _ _ (stop_at_go 5 _ _ f.meant.named)
      (⨾-both _ _ (stop_at_go 6 _ _ (λ i h. (inside end len _ _).1 (f.in_range i h)))
      (⨾-both _ _ b
      (⨾-both _ _ (stop_at_go 7 _ _ (λ i h. earlier-none _ rows i (f.meant.once i h)))
      (stop_at_go 8 _ _ (λ i h. earlier-none _ rows i (f.meant.unmixed i h))))))

  -- the rows below n decide
  pub rows_stop-same : (between : Stop) (end len n : ℕ) (f g : ℕ → Row) → ((i : ℕ) → i < n → f i ≡ g i) → rows_stop R between end len n f ≡ rows_stop R between end len n g
  unfolding rows_stop
  rows_stop-same between end len n f g h =
      rw (
        stop_at_same 5 n (λ i. bad_id R (f i)) (λ i. bad_id R (g i)) (λ i l. rw (h i l)),
        stop_at_same 6 n (λ i. outside end len (f i).offset (f i).size) (λ i. outside end len (g i).offset (g i).size) (λ i l. rw (h i l)),
        stop_at_same 7 n (earlier (mean_same R) f) (earlier (mean_same R) g) (earlier-same (mean_same R) n f g h),
        stop_at_same 8 n (earlier (mix R) f) (earlier (mix R) g) (earlier-same (mix R) n f g h),
      )

  pub accepted : (s : List ℕ) → (bundle_stop R s).number ≡ 0 → Accepted R s
  unfolding bundle_stop overlap_stop
  accepted s e =
      let e₂ = ⨾-right _ _ e in
      let (sense, apart) = sound _ _ _ _ _ (⨾-right _ _ e₂) in
      record { frame = framed s (⨾-left _ _ e) (⨾-left _ _ e₂); sense = sense; apart = λ i h. none-earlier _ (row s) i (stop_at_no 20 _ _ apart i h) }

  pub accepted-go : (s : List ℕ) → Accepted R s → bundle_stop R s ≡ go
  unfolding bundle_stop overlap_stop
  accepted-go s a = ⨾-both _ _ (head_go s a.frame) (⨾-both _ _ (table-go s a.frame) (sound_go _ _ _ _ _ a.sense (stop_at_go 21 _ _ (λ i h. earlier-none _ (row s) i (a.apart i h)))))

  -- a refusal whose number is not one of the check's comes after the check, which accepts
  pub past-check : (s : List ℕ) (t : Stop) (m : ℕ) → (Own m → ⊥) → (bundle_stop R s ⨾ t).number ≡ m → Accepted R s × (t.number ≡ m)
  past-check s t m h e = by (bundle_stop R s).number refl
    where
      by : (k : ℕ) → (bundle_stop R s).number ≡ k → Accepted R s × (t.number ≡ m)
      by zero z = (accepted s z, ap (λ (x : Stop). x.number) (sym (⨾-next _ t z)) ∙ e)
      by (suc k) z = absurd (h (subst Own (ap (λ (x : Stop). x.number) (sym (⨾-stop _ t k z)) ∙ e) (bundle_stop-own R s)))
