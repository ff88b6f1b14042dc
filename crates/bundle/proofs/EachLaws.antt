-- The pick for each of several device names, case by case. Assumes nothing.
use Prim.Native.Nat.{ℕ, zero, suc, ◌+◌, ◌<◌, ◌≤◌}
use native.Mathlib.Omega.{arith}
use mathlib.Core.Path.{◌≡◌, refl, sym, ap, ◌∙◌}
use mathlib.Core.Logic.{◌↔◌}
use mathlib.Core.Bool.{Bool, true, false, ◌&&◌, ◌||◌, cond}
use mathlib.Core.List.{List, [], ◌∷◌, ◌++◌}
use lib.Count.{ones, ones-ones}
use lib.Dec.{eqb}
use lib.ListN.{length, get_or, drop, get_or-append}
use lib.Seq.{drop_at}
use borrow.Author.Tests.{ltb-true, ltb-false, lt-ltb, le-ltb, lt-leb, eqb-true, eq-eqb}
use Rattle.wire.specs.Bits.{bits_below, count_below, bit_at}
use Rattle.wire.specs.Bytes.{empty}
use Rattle.wire.specs.First.{first, any_below}
use Rattle.wire.specs.Lists.{any, tab, distinct}
use Rattle.wire.specs.Stop.{Stop, go, stop, ◌⨾◌, stop_if, stop_when, unrefused, over, output}
use Rattle.wire.proofs.Bools.{and_both, both_and, eqb_sym}
use Rattle.wire.proofs.BitLaws.{bits_exact, ones_bits, count_same, count-distinct}
use Rattle.wire.proofs.FirstLaws.{first_at, any_some, any_suc}
use Rattle.wire.proofs.StopLaws.{⨾-both, ⨾-left, ⨾-right, ⨾-stop, stop_if-go, stop_if_no, stop_if-first, stop_if_second, unrefused-go, unrefused-stop, output-stop, over_tab, length_over}
use Rattle.wire.proofs.TabLaws.{length_tab, get_d_tab}
use Rattle.entry_id.specs.IdRules.{IdRules}
use Rattle.bundle.specs.Table.{count}
use Rattle.bundle.specs.Check.{bundle_stop, check}
use Rattle.bundle.specs.Pick.{pick}
use Rattle.bundle.specs.Accepted.{Accepted}
use Rattle.bundle.specs.Theorems.{refusal}
use Rattle.bundle.specs.Each.{start_of, length_of, part_of, slot_of, took, indices, no_picks, pick_at, taken, each_stop, pick_each, slots_after, Took, Slotted, answer, after, EachExact}
use Rattle.bundle.specs.declared.Picked.{Picked}
use Rattle.bundle.specs.declared.PickedEach.{PickedEach}
use Rattle.bundle.proofs.AcceptLaws.{accepted, accepted-go, past-check}
use Rattle.bundle.proofs.PickLaws.{pick-query, picked_lt}

-- ---- the entries taken, as a word and a number, as a list and as a test

ones-unrefused : (t : Stop) (p : ℕ → Bool) → unrefused t (count_below 64 p) ≡ ones (unrefused t (bits_below 64 p))
ones-unrefused t p = by t.number refl
  where
    by : (k : ℕ) → t.number ≡ k → unrefused t (count_below 64 p) ≡ ones (unrefused t (bits_below 64 p))
    by zero e = rw (unrefused-go t (count_below 64 p) e, unrefused-go t (bits_below 64 p) e) (sym (ones_bits 64 p))
    by (suc k) e = rw (unrefused-stop t (count_below 64 p) k e, unrefused-stop t (bits_below 64 p) k e) (sym (ones-ones 0))

any_index : (b : Bool) (x : ℕ) (l : List ℕ) (i : ℕ) → any (eqb i) (cond b (x ∷ l) l) ≡ (b && eqb x i || any (eqb i) l)
unfolding any
any_index true x l i = ap (λ t. t || any (eqb i) l) (eqb_sym i x)
any_index false x l i = refl

any-indices : (n : ℕ) (f : ℕ → Picked) (i : ℕ) → any (eqb i) (indices (tab n f)) ≡ any_below n (λ k. took (f k) i)
unfolding indices tab took any any_below first
any-indices zero f i = refl
any-indices (suc n) f i =
    let g : ℕ → Picked = λ k. f (suc k) in
    any_index (eqb (f zero).number 0) (f zero).index (indices (tab n g)) i
    ∙ ap (λ t. took (f zero) i || t) (any-indices n g i)
    ∙ sym (any_suc n (λ k. took (f k) i))

module _ (R : IdRules) (s buffer : List ℕ) (names slots : List (List ℕ)) where
  abbrev stopped : Stop
  stopped = each_stop R s buffer names (length slots)

  abbrev given : PickedEach
  given = answer R s buffer names slots

  abbrev left : List (List ℕ)
  left = after R s buffer names slots

  abbrev single : ℕ → Picked
  single = pick_at R s buffer names

  abbrev is_taken : ℕ → Bool
  is_taken = taken R s buffer names

  abbrev slot_at : ℕ → List ℕ
  slot_at k = slot_of (single k)

  abbrev picks : List (List ℕ)
  picks = tab (length names) slot_at

  -- ---- what refuses the call

  pub refused_by_lem : (t : Stop) (k : ℕ) → stopped ≡ t → t.number ≡ suc k → given ≡ no_picks t.number t.place
  unfolding pick_each
  refused_by_lem t k p e =
      let z : (v : ℕ) → unrefused t v ≡ 0 = λ v. unrefused-stop t v k e in
      rw (p, z (length names), z (bits_below 64 is_taken), z (count_below 64 is_taken))

  each-refused : (k : ℕ) → (bundle_stop R s).number ≡ suc k → given ≡ no_picks (bundle_stop R s).number (bundle_stop R s).place
  unfolding each_stop
  each-refused k e = refused_by_lem (bundle_stop R s) k (⨾-stop _ _ k e) e

  each-many : Accepted R s → 16 < length names → given ≡ no_picks 23 0
  unfolding each_stop stop_if stop_when ◌⨾◌
  each-many a h = refused_by_lem (stop 23 0) 22 (rw (accepted-go R s a, lt-ltb 16 (length names) h)) refl

  each_narrow : Accepted R s → length names ≤ 16 → length slots < length names → given ≡ no_picks 12 0
  unfolding each_stop stop_if stop_when ◌⨾◌
  each_narrow a f h = refused_by_lem (stop 12 0) 11 (rw (accepted-go R s a, le-ltb 16 (length names) f, lt-ltb (length slots) (length names) h)) refl

  each-go : Accepted R s → Slotted names slots → stopped ≡ go
  unfolding each_stop
  each-go a h = ⨾-both _ _ (accepted-go R s a) (⨾-both _ _ (stop_if-go 23 _ (le-ltb _ _ h.few)) (stop_if-go 12 _ (le-ltb _ _ h.room)))

  -- ---- and only that

  many_is : given.number ≡ 23 → Accepted R s × (16 < length names)
  unfolding pick_each each_stop
  many_is e = let p = past-check R s _ 23 (λ o. omega (arith, o (omega arith))) e in (p.0, ltb-true _ _ (stop_if-first 22 11 _ _ (λ z. omega arith) p.1))

  narrow_is : given.number ≡ 12 → Accepted R s × ((length names ≤ 16) × (length slots < length names))
  unfolding pick_each each_stop
  narrow_is e =
      let p = past-check R s _ 12 (λ o. omega (arith, o (omega arith))) e in
      let b = stop_if_second 22 11 _ _ (λ z. omega arith) p.1 in
      (p.0, (ltb-false _ _ b.0, ltb-true _ _ b.1))

  pub each_is : given.number ≡ 0 → Accepted R s × Slotted names slots
  unfolding pick_each each_stop
  each_is e =
      let r = ⨾-right _ _ e in
      (accepted R s (⨾-left _ _ e), record { few = ltb-false _ _ (stop_if_no 22 _ (⨾-left _ _ r)); room = ltb-false _ _ (stop_if_no 11 _ (⨾-right _ _ r)) })

  pub each-kept : (k : ℕ) → given.number ≡ suc k → left ≡ slots
  unfolding pick_each slots_after
  each-kept k e = output-stop stopped _ slots k e

  each-outside : empty (R.canon []) ≡ true → Accepted R s → (part : List ℕ) → length buffer < start_of part + length_of part → pick R s (part_of buffer part) ≡ refusal 9 0
  unfolding part_of
  each-outside none a part h = rw (lt-leb _ _ h) (pick-query R s [] a none)

  -- ---- the entries taken

  took_some : (i : ℕ) → is_taken i ≡ true → Took R s buffer names i
  unfolding taken any_below took
  took_some i e =
      let p : ℕ → Bool = λ k. took (single k) i in
      let h : first (length names) p < length names = ltb-true _ _ e in
      let b = and_both _ _ (first_at (length names) p h) in
      record { name = first (length names) p; listed = h; picked = eqb-true _ _ b.0; entry = eqb-true _ _ b.1 }

  some_took : (i : ℕ) → Took R s buffer names i → is_taken i ≡ true
  unfolding taken took
  some_took i t = any_some (length names) _ t.name t.listed (both_and _ _ (eq-eqb _ _ t.picked) (eq-eqb _ _ t.entry))

  took-below : (i : ℕ) → Took R s buffer names i → i < count s
  unfolding pick_at
  took-below i t = rw t.entry at (picked_lt R s _ t.picked)

  each-counted : given.taken ≡ ones given.word
  unfolding pick_each
  each-counted = ones-unrefused stopped is_taken

  -- ---- a call that is not refused

  module _ (e : given.number ≡ 0) where
    pub each_goes : stopped ≡ go
    each_goes = let h = each_is e in each-go h.0 h.1

    each-written : (given.place ≡ 0) × (given.slots ≡ length names)
    unfolding pick_each unrefused
    each-written = (ap (λ (t : Stop). t.place) each_goes, ap (λ (t : Stop). unrefused t (length names)) each_goes)

    slots_are : left ≡ over picks slots
    unfolding slots_after output
    slots_are = rw each_goes

    slots_then : left ≡ picks ++ drop (length names) slots
    slots_then = slots_are ∙ over_tab (length names) slot_at slots

    each-slot : (k : ℕ) → k < length names → get_or left k [] ≡ slot_of (pick R s (part_of buffer (get_or names k [])))
    unfolding pick_at
    each-slot k h =
        ap (λ l. get_or l k []) slots_then
        ∙ get_or-append picks (drop (length names) slots) [] k (omega (arith, length_tab (length names) slot_at))
        ∙ get_d_tab (length names) slot_at k [] h

    each-beyond : drop (length names) left ≡ drop (length names) slots
    each-beyond = ap (drop (length names)) slots_then ∙ drop_at picks (drop (length names) slots) (length names) (length_tab (length names) slot_at)

    each-length : length left ≡ length slots
    each-length = ap length slots_are ∙ length_over picks slots (omega (arith, length_tab (length names) slot_at, (each_is e).1.room))

    taken-below : (i : ℕ) → is_taken i ≡ true → i < 64
    taken-below i t = omega (arith, took-below i (took_some i t), (each_is e).0.frame.few)

    word_is : given.word ≡ bits_below 64 is_taken
    unfolding pick_each
    word_is = unrefused-go stopped _ e

    each-bit : (i : ℕ) → (bit_at given.word i ≡ 1) ↔ Took R s buffer names i
    each-bit i =
        let b = (bits_exact 64 is_taken).bit i in (
          (λ w. took_some i (b.0 (ap (λ x. bit_at x i) (sym word_is) ∙ w)).1),
          (λ t. let h = some_took i t in ap (λ x. bit_at x i) word_is ∙ b.1 (taken-below i h, h)),
        )

    each_chosen : given.taken ≡ length (distinct (indices (tab (length names) single)))
    unfolding pick_each taken
    each_chosen =
        let same : (i : ℕ) → any (eqb i) (indices (tab (length names) single)) ≡ is_taken i = any-indices (length names) single in
        unrefused-go stopped _ e
        ∙ count_same 64 is_taken _ (λ i l. sym (same i))
        ∙ count-distinct 64 (indices (tab (length names) single)) (λ i m. taken-below i (sym (same i) ∙ m))

  each_lent : length left ≡ length slots
  each_lent = by given.number refl
    where
      by : (k : ℕ) → given.number ≡ k → length left ≡ length slots
      by zero e = each-length e
      by (suc k) e = ap length (each-kept k e)

  pub each_exact : empty (R.canon []) ≡ true → EachExact R s buffer names slots
  unfolding check pick_each
  each_exact none = record {
    refused = each-refused;
    many = ((λ e. many_is (ap (λ (x : PickedEach). x.number) e)), (λ h. each-many h.0 h.1));
    no_room = ((λ e. narrow_is (ap (λ (x : PickedEach). x.number) e)), (λ h. each_narrow h.0 h.1.0 h.1.1));
    accepted = (each_is, (λ h. ap (λ (t : Stop). t.number) (each-go h.0 h.1)));
    written = each-written;
    slot = each-slot;
    beyond = each-beyond;
    lent = each_lent;
    kept = each-kept;
    outside = each-outside none;
    bit = each-bit;
    below = took-below;
    counted = each-counted;
    chosen = each_chosen;
  }
