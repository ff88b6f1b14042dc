-- The place of each of 4 to 8 and of 21. Assumes nothing.
use Prim.Native.Nat.{ℕ, zero, suc, ◌<◌, ◌≤◌}
use native.Mathlib.Omega.{arith}
use mathlib.Core.Path.{◌≡◌, refl, sym, ap, subst, ◌∙◌}
use mathlib.Core.Bool.{Bool, true, false}
use mathlib.Core.List.{List}
use lib.ListN.{length}
use borrow.Author.Tests.{ltb-true}
use Rattle.wire.specs.First.{first, any_below}
use Rattle.wire.specs.Stop.{Stop, stop, ◌⨾◌, stop_when, stop_at, earlier}
use Rattle.wire.proofs.Bools.{by_bool, clash}
use Rattle.wire.proofs.FirstLaws.{first_at, first-before}
use Rattle.wire.proofs.StopLaws.{⨾-stop, ⨾-next, earlier_some}
use Rattle.entry_id.specs.IdRules.{IdRules}
use Rattle.bundle.specs.Table.{Row, count, row, table_end}
use Rattle.bundle.specs.Check.{bad_id, outside, overlaps, overlap_stop, mean_same, mix, head_stop, table_stop, rows_stop, bundle_stop, check}
use Rattle.bundle.specs.Theorems.{Lowest, Earlier, PlaceExact}
use Rattle.bundle.proofs.CheckLaws.{⨾-all, head_stop_le}

-- ---- which of two refuses

module _ (a b : Stop) (m : ℕ) (e : (a ⨾ b).number ≡ suc m) where
  -- not the first
  second : (a.number ≡ suc m → ⊥) → a ⨾ b ≡ b
  second other = by a.number refl
    where
      by : (n : ℕ) → a.number ≡ n → a ⨾ b ≡ b
      by zero q = ⨾-next a b q
      by (suc k) q = absurd (other (ap (λ t. t.number) (sym (⨾-stop a b k q)) ∙ e))

  -- not the second
  foremost : (b.number ≡ suc m → ⊥) → a ⨾ b ≡ a
  foremost other = by a.number refl
    where
      by : (n : ℕ) → a.number ≡ n → a ⨾ b ≡ a
      by zero q = absurd (other (ap (λ t. t.number) (sym (⨾-next a b q)) ∙ e))
      by (suc k) q = ⨾-stop a b k q

  -- either
  from : (P : Type 0) → (a.number ≡ suc m → P) → (b.number ≡ suc m → P) → P
  from P x y = ⨾-all (λ k. k ≡ suc m → P) a b x y e

only_when : (b : Bool) (k i m : ℕ) → (stop_when b (stop k i)).number ≡ suc m → suc m ≡ k
unfolding stop_when
only_when true k i m e = sym e
only_when false k i m e = absurd (omega arith)

only_at : (k n : ℕ) (p : ℕ → Bool) (m : ℕ) → (stop_at k n p).number ≡ suc m → suc m ≡ k
unfolding stop_at
only_at k n p m e = only_when (any_below n p) k (first n p) m e

-- ---- the lowest index

lowest_at : (k n : ℕ) (p : ℕ → Bool) → (stop_at (suc k) n p).number ≡ suc k → Lowest (λ i. p i ≡ true) n (stop_at (suc k) n p).place
unfolding stop_at stop_when any_below
lowest_at k n p e =
    by_bool (any_below n p)
    (λ t.
    let h : first n p < n = ltb-true (first n p) n t in
    subst (Lowest (λ i. p i ≡ true) n) (sym (ap (λ b. (stop_when b (stop (suc k) (first n p))).place) t))
    (record { entry = h; here = first_at n p h; lower = λ j l y. clash (p j) y (first-before n p j l) }))
    (λ f. let z : 0 ≡ suc k = ap (λ b. (stop_when b (stop (suc k) (first n p))).number) (sym f) ∙ e in absurd (omega arith))

module _ (related : Row → Row → Bool) (rows : ℕ → Row) where
  earlier-one : (i : ℕ) → earlier related rows i ≡ true → Earlier related rows i
  unfolding earlier any_below
  earlier-one i t =
      let p : ℕ → Bool = λ j. related (rows j) (rows i) in
      let h : first i p < i = ltb-true (first i p) i t in
      record { other = first i p; before = h; are = first_at i p h }

  one_earlier : (i : ℕ) → Earlier related rows i → earlier related rows i ≡ true
  one_earlier i o = earlier_some related rows i o.other o.before o.are

  lowest-earlier : (n i : ℕ) → Lowest (λ k. earlier related rows k ≡ true) n i → Lowest (Earlier related rows) n i
  lowest-earlier n i w = record { entry = w.entry; here = earlier-one i w.here; lower = λ k l o. w.lower k l (one_earlier k o) }

-- ---- the places

module _ (R : IdRules) (s : List ℕ) where
  abbrev n : ℕ
  n = count s

  abbrev at4 : Stop
  at4 = table_stop s

  abbrev at5 : Stop
  at5 = stop_at 5 n (λ i. bad_id R (row s i))

  abbrev at6 : Stop
  at6 = stop_at 6 n (λ i. outside (table_end s) (length s) (row s i).offset (row s i).size)

  abbrev at21 : Stop
  at21 = stop_at 21 n (earlier overlaps (row s))

  abbrev at7 : Stop
  at7 = stop_at 7 n (earlier (mean_same R) (row s))

  abbrev at8 : Stop
  at8 = stop_at 8 n (earlier (mix R) (row s))

  -- what comes after each but 21 has a higher number
  after_7 : (m : ℕ) → at8.number ≡ suc m → suc m ≡ 8
  after_7 m e = only_at 8 n _ m e

  after_21 : (m : ℕ) → (at7 ⨾ at8).number ≡ suc m → (7 ≤ suc m) × (suc m ≤ 8)
  after_21 m e = from at7 at8 m e _ (λ q. let z = only_at 7 n _ m q in (omega arith, omega arith)) (λ q. let z = after_7 m q in (omega arith, omega arith))

  after_6 : (m : ℕ) → (at21 ⨾ at7 ⨾ at8).number ≡ suc m → 7 ≤ suc m
  after_6 m e = from at21 (at7 ⨾ at8) m e _ (λ q. omega (arith, only_at 21 n _ m q)) (λ q. (after_21 m q).0)

  after_5 : (m : ℕ) → (at6 ⨾ at21 ⨾ at7 ⨾ at8).number ≡ suc m → 6 ≤ suc m
  after_5 m e = from at6 (at21 ⨾ at7 ⨾ at8) m e _ (λ q. omega (arith, only_at 6 n _ m q)) (λ q. omega (arith, after_6 m q))

  after_4 : (m : ℕ) → (at5 ⨾ at6 ⨾ at21 ⨾ at7 ⨾ at8).number ≡ suc m → 5 ≤ suc m
  after_4 m e = from at5 (at6 ⨾ at21 ⨾ at7 ⨾ at8) m e _ (λ q. omega (arith, only_at 5 n _ m q)) (λ q. omega (arith, after_5 m q))

  -- and before each but 7 and 8 a lower one
  module _ (m : ℕ) (e : (bundle_stop R s).number ≡ suc m) where
    past : (a b : Stop) → bundle_stop R s ≡ a ⨾ b → (a.number ≡ suc m → ⊥) → bundle_stop R s ≡ b
    past a b q other = q ∙ second a b m (ap (λ t. t.number) (sym q) ∙ e) other

    here : (a b : Stop) → bundle_stop R s ≡ a ⨾ b → (b.number ≡ suc m → ⊥) → bundle_stop R s ≡ a
    here a b q other = q ∙ foremost a b m (ap (λ t. t.number) (sym q) ∙ e) other

    from_4 : 4 ≤ suc m → bundle_stop R s ≡ at4 ⨾ at5 ⨾ at6 ⨾ at21 ⨾ at7 ⨾ at8
    unfolding bundle_stop rows_stop overlap_stop
    from_4 h = past (head_stop s) (at4 ⨾ at5 ⨾ at6 ⨾ at21 ⨾ at7 ⨾ at8) refl (λ q. omega (arith, head_stop_le s))

    from_5 : 5 ≤ suc m → bundle_stop R s ≡ at5 ⨾ at6 ⨾ at21 ⨾ at7 ⨾ at8
    unfolding table_stop
    from_5 h = past at4 (at5 ⨾ at6 ⨾ at21 ⨾ at7 ⨾ at8) (from_4 (omega arith)) (λ q. omega (arith, only_at 4 n _ m q))

    from_6 : 6 ≤ suc m → bundle_stop R s ≡ at6 ⨾ at21 ⨾ at7 ⨾ at8
    from_6 h = past at5 (at6 ⨾ at21 ⨾ at7 ⨾ at8) (from_5 (omega arith)) (λ q. omega (arith, only_at 5 n _ m q))

    from_21 : 7 ≤ suc m → bundle_stop R s ≡ at21 ⨾ at7 ⨾ at8
    from_21 h = past at6 (at21 ⨾ at7 ⨾ at8) (from_6 (omega arith)) (λ q. omega (arith, only_at 6 n _ m q))

    pub from_7 : 7 ≤ suc m → suc m ≤ 8 → bundle_stop R s ≡ at7 ⨾ at8
    from_7 h l = past at21 (at7 ⨾ at8) (from_21 h) (λ q. omega (arith, only_at 21 n _ m q))

    from_8 : 8 ≤ suc m → suc m ≤ 8 → bundle_stop R s ≡ at8
    from_8 h l = past at7 at8 (from_7 (omega arith) l) (λ q. omega (arith, only_at 7 n _ m q))

  lowest : (k : ℕ) (p : ℕ → Bool) → (bundle_stop R s).number ≡ suc k → bundle_stop R s ≡ stop_at (suc k) n p → Lowest (λ i. p i ≡ true) n (bundle_stop R s).place
  lowest k p e q = subst (λ (t : Stop). Lowest (λ i. p i ≡ true) n t.place) (sym q) (lowest_at k n p (ap (λ t. t.number) (sym q) ∙ e))

  pub place_exact : PlaceExact R s
  unfolding check table_stop
  place_exact = record {
    table = λ e. lowest 3 _ e (here 3 e at4 _ (from_4 3 e (omega arith)) (λ q. omega (arith, after_4 3 q)));
    id = λ e. lowest 4 _ e (here 4 e at5 _ (from_5 4 e (omega arith)) (λ q. omega (arith, after_5 4 q)));
    range = λ e. lowest 5 _ e (here 5 e at6 _ (from_6 5 e (omega arith)) (λ q. omega (arith, after_6 5 q)));
    overlap = λ e. lowest-earlier overlaps (row s) n _ (lowest 20 _ e (here 20 e at21 (at7 ⨾ at8) (from_21 20 e (omega arith)) (λ q. omega (arith, (after_21 20 q).1))));
    twice = λ e. lowest-earlier (mean_same R) (row s) n _ (lowest 6 _ e (here 6 e at7 at8 (from_7 6 e (omega arith) (omega arith)) (λ q. omega (arith, after_7 6 q))));
    mixed = λ e. lowest-earlier (mix R) (row s) n _ (lowest 7 _ e (from_8 7 e (omega arith) (omega arith)));
  }
