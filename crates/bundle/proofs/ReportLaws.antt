-- The report on two bundles: what it is in each case, and that it has at most 33,168 bytes. Assumes nothing.
use Prim.Native.Nat.{ℕ, zero, suc, ◌+◌, ◌*◌, ◌<◌, ◌≤◌, zero-le}
use native.Mathlib.Omega.{arith}
use mathlib.Core.Path.{◌≡◌, refl, sym, ap, ◌∙◌, subst}
use mathlib.Core.List.{List, [], ◌∷◌, ◌++◌, map, Memᴰ}
use lib.ListN.{length, length-append}
use borrow.Author.Tests.{lt-ltb, le-ltb}
use Rattle.wire.specs.Bytes.{bytes, same, before, common}
use Rattle.wire.specs.Lists.{total, joined}
use Rattle.wire.specs.Order.{sort_by}
use Rattle.wire.specs.Stop.{stop, stop_when, stop_if}
use Rattle.wire.proofs.Bools.{by_bool, by_lt}
use Rattle.wire.proofs.ByteLaws.{common-within}
use Rattle.wire.proofs.ListLaws.{joined-append}
use Rattle.wire.proofs.SortLaws.{sort_out, sort_length}
use Rattle.wire.proofs.StopLaws.{⨾-go, ⨾-first}
use Rattle.entry_id.specs.IdRules.{IdRules, Lawful}
use Rattle.bundle.specs.Table.{count, row}
use Rattle.bundle.specs.Check.{bundle_stop}
use Rattle.bundle.specs.Entry.{Entry, entry_of, entries}
use Rattle.bundle.specs.Normal.{by_id}
use Rattle.bundle.specs.Accepted.{Accepted}
use Rattle.bundle.specs.Differences.{Difference, only_left, only_right, other_image, met, line, ended, printed, last_line, difference_lines, refused_line, refused_by, differences, input_stop, report}
use Rattle.bundle.proofs.CheckLaws.{Own, bundle_stop-own}
use Rattle.bundle.proofs.AcceptLaws.{accepted}
use Rattle.bundle.proofs.EntryLaws.{entries-length, entry_of_lem, length_image_of}
use Rattle.bundle.proofs.NormalLaws.{accepted_writable}
use Rattle.bundle.proofs.DecimalLaws.{decimal_most}
use Rattle.bundle.proofs.WalkLaws.{against, walk, walk_sorted}

-- ---- lines

line_length : Difference → ℕ
line_length d = length (ended (line d))

-- an entry of a bundle that is compared
record Short (e : Entry) : Type 0 where
  id : length e.id ≤ 256
  image : length e.image ≤ 32768

left-length : (e : Entry) → Short e → line_length (only_left e) ≤ 259
unfolding line_length line
left-length e s = simp length-append (omega (arith, s.id))

right-length : (f : Entry) → Short f → line_length (only_right f) ≤ 259
unfolding line_length line
right-length f s = simp length-append (omega (arith, s.id))

other_length : (e f : Entry) → Short e → line_length (other_image e f) ≤ 518
unfolding line_length line
other_length e f s =
    let n : ℕ = common e.image f.image in
    simp length-append (omega (arith, s.id, s.image, (common-within e.image f.image).0, decimal_most 4 n (omega (arith, s.image, (common-within e.image f.image).0))))

-- ---- the lines of a walk: at most one for each entry, or one for two

AllShort : List Entry → Type 0
AllShort l = (e : Entry) → Memᴰ e l → Short e

-- differences of so many entries
record Few (n : ℕ) (ds : List Difference) : Type 0 where
  lines : length ds ≤ n
  bytes : total line_length ds ≤ 259 * n

few_one : (n m : ℕ) (d : Difference) (ds : List Difference) → m ≡ suc n → line_length d ≤ 259 → Few n ds → Few m (d ∷ ds)
unfolding total
few_one n m d ds e h w = record { lines = omega (arith, e, w.lines); bytes = omega (arith, e, h, w.bytes) }

few_met : (n m : ℕ) (e f : Entry) (ds : List Difference) → m ≡ 2 + n → Short e → Few n ds → Few m (met e f ++ ds)
unfolding met total
few_met n m e f ds q s w =
    by_bool (same e.image f.image)
    (λ t. rw t (record { lines = omega (arith, q, w.lines); bytes = omega (arith, q, w.bytes) }))
    (λ u. rw u (record { lines = omega (arith, q, w.lines); bytes = omega (arith, q, other_length e f s, w.bytes) }))

few_rights : (fs : List Entry) → AllShort fs → Few (length fs) (map only_right fs)
unfolding total AllShort
few_rights [] s = record { lines = zero-le; bytes = zero-le }
few_rights (f ∷ fs) s =
    few_one (length fs) (suc (length fs)) (only_right f) (map only_right fs) refl (right-length f (s f (Memᴰ.head refl))) (few_rights fs (λ g m. s g (Memᴰ.tail m)))

few_against : (e : Entry) (es : List Entry) → Short e → ((fs : List Entry) → AllShort fs → Few (length es + length fs) (walk es fs))
    → (fs : List Entry) → AllShort fs → Few (suc (length es) + length fs) (against (walk es) e fs)
unfolding against AllShort
few_against e es s ih [] t = few_one (length es + 0) (suc (length es) + 0) (only_left e) (walk es []) (omega arith) (left-length e s) (ih [] t)
few_against e es s ih (f ∷ fs) t =
    let u : AllShort fs = λ g m. t g (Memᴰ.tail m) in
    by_bool (before e.id f.id)
    (λ b. rw b (few_one (length es + suc (length fs)) (suc (length es) + suc (length fs)) (only_left e) (walk es (f ∷ fs)) (omega arith) (left-length e s) (ih (f ∷ fs) t)))
    (λ b. by_bool (before f.id e.id)
    (λ c. rw (b, c) (few_one (suc (length es) + length fs) (suc (length es) + suc (length fs)) (only_right f) (against (walk es) e fs) (omega arith) (right-length f (t f (Memᴰ.head refl))) (few_against e es s ih fs u)))
    (λ c. rw (b, c) (few_met (length es + length fs) (suc (length es) + suc (length fs)) e f (walk es fs) (omega arith) s (ih fs u))))

few_walk : (es fs : List Entry) → AllShort es → AllShort fs → Few (length es + length fs) (walk es fs)
unfolding walk AllShort
few_walk [] fs s t = subst (λ n. Few n (map only_right fs)) (let e : length fs ≡ 0 + length fs = omega arith in e) (few_rights fs t)
few_walk (e ∷ es) fs s t = few_against e es (s e (Memᴰ.head refl)) (λ gs u. few_walk es gs (λ g m. s g (Memᴰ.tail m)) u) fs t

-- ---- the report

printed-lines : (ds : List Difference) → length (printed (map line ds)) ≡ total line_length ds
unfolding printed joined total line_length
printed-lines [] = refl
printed-lines (d ∷ ds) = omega (arith, length-append (ended (line d)) (joined ended (map line ds)), printed-lines ds)

last_length : (n : ℕ) → n ≤ 128 → length (ended (last_line n)) ≤ 16
unfolding last_line
last_length n h = simp length-append (omega (arith, decimal_most 2 n (omega (arith, h))))

refused-length : (side : List ℕ) (k : ℕ) → length side ≤ 5 → k ≤ 21 → length (printed (refused_line side k ∷ [])) ≤ 33168
unfolding printed joined refused_line
refused-length side k h l = simp length-append (omega (arith, h, decimal_most 1 k (omega (arith, l))))

module _ (ds : List Difference) (few : Few 128 ds) where
  lines-length : length (printed (difference_lines ds)) ≤ 33168
  unfolding printed difference_lines joined
  lines-length =
      rw (joined-append ended (map line ds) (last_line (length ds) ∷ []))
      (omega (arith, length-append (joined ended (map line ds)) (ended (last_line (length ds)) ++ []), length-append (ended (last_line (length ds))) [], printed-lines ds, last_length (length ds) few.lines, few.bytes))

module _ (R : IdRules) where
  -- ---- the inputs

  pub long-number : (s : List ℕ) → 32768 < length s → (input_stop R s).number ≡ 1
  unfolding input_stop stop_if stop_when
  long-number s h = rw (lt-ltb 32768 (length s) h) (ap (λ t. t.number) (⨾-first (stop 1 0) (bundle_stop R s) 1 (omega arith) refl))

  pub short-number : (s : List ℕ) → length s ≤ 32768 → (input_stop R s).number ≡ (bundle_stop R s).number
  unfolding input_stop stop_if stop_when
  short-number s h = rw (le-ltb 32768 (length s) h) (ap (λ t. t.number) (⨾-go (bundle_stop R s)))

  number_most : (s : List ℕ) → (input_stop R s).number ≤ 21
  number_most s =
      by_lt 32768 (length s)
      (λ h. omega (arith, long-number s h))
      (λ h. rw (short-number s h) (own (bundle_stop R s).number (bundle_stop-own R s)))
    where
      own : (m : ℕ) → Own m → m ≤ 21
      own m h = by_lt 8 m (λ l. omega (arith, h l)) (λ l. omega (arith, l))

  pub input_accepted : (s : List ℕ) → (input_stop R s).number ≡ 0 → (length s ≤ 32768) × Accepted R s
  input_accepted s e =
      by_lt 32768 (length s)
      (λ h. absurd (omega (arith, e, long-number s h)))
      (λ h. (h, accepted R s (sym (short-number s h) ∙ e)))

  -- ---- in each case

  module _ (a b : List ℕ) where
    pub left_refused : (k : ℕ) → (input_stop R a).number ≡ suc k → report R a b ≡ printed (refused_line (bytes "left") (suc k) ∷ [])
    unfolding report refused_by
    left_refused k e = rw (e, refused_by)

    pub right_refused : (k : ℕ) → (input_stop R a).number ≡ 0 → (input_stop R b).number ≡ suc k → report R a b ≡ printed (refused_line (bytes "right") (suc k) ∷ [])
    unfolding report refused_by
    right_refused k z e = rw (z, e, refused_by)

    pub compared : (input_stop R a).number ≡ 0 → (input_stop R b).number ≡ 0 → report R a b ≡ printed (difference_lines (differences R a b))
    unfolding report refused_by
    compared z e = rw (z, e, refused_by)

  -- ---- the length

  module _ (L : Lawful R) where
    entries-short : (s : List ℕ) → Accepted R s → length s ≤ 32768 → AllShort (sort_by by_id (entries R s))
    unfolding AllShort entry_of
    entries-short s p h e m =
        let o = entry_of_lem R s (count s) (row s) e (sort_out by_id e (entries R s) m) in
        let g = (p.sense.in_range o.0 o.1).within in
        rw o.2 (record { id = L.canon_short (row s o.0).id; image = omega (arith, length_image_of s (row s o.0) g, g, h) })

    entries_few : (s : List ℕ) → Accepted R s → length (sort_by by_id (entries R s)) ≤ 64
    entries_few s p = omega (arith, sort_length by_id (entries R s), entries-length R s (count s) (row s), p.frame.few)

    few_differences : (a b : List ℕ) → (input_stop R a).number ≡ 0 → (input_stop R b).number ≡ 0 → Few 128 (differences R a b)
    unfolding differences
    few_differences a b z e =
        let p = input_accepted a z in
        let q = input_accepted b e in
        let w = few_walk (sort_by by_id (entries R a)) (sort_by by_id (entries R b)) (entries-short a p.1 p.0) (entries-short b q.1 q.0) in
        let few : Few 128 (walk (sort_by by_id (entries R a)) (sort_by by_id (entries R b))) =
        record { lines = omega (arith, w.lines, entries_few a p.1, entries_few b q.1); bytes = omega (arith, w.bytes, entries_few a p.1, entries_few b q.1) } in
        rw (walk_sorted (entries R a) (entries R b) (accepted_writable R L a p.1).distinct (accepted_writable R L b q.1).distinct) at few

    pub report-fits : (a b : List ℕ) → length (report R a b) ≤ 33168
    report-fits a b = by_left (input_stop R a).number refl
      where
        by_right : (input_stop R a).number ≡ 0 → (k : ℕ) → (input_stop R b).number ≡ k → length (report R a b) ≤ 33168
        by_right z zero e = rw (compared a b z e) (lines-length (differences R a b) (few_differences a b z e))
        by_right z (suc k) e = rw (right_refused a b k z e) (refused-length (bytes "right") (suc k) (omega arith) (omega (arith, e, number_most b)))

        by_left : (k : ℕ) → (input_stop R a).number ≡ k → length (report R a b) ≤ 33168
        by_left zero z = by_right z (input_stop R b).number refl
        by_left (suc k) e = rw (left_refused a b k e) (refused-length (bytes "left") (suc k) (omega arith) (omega (arith, e, number_most a)))
