-- The tests of the check as facts, and the answer by its refusal. Assumes nothing.
use Prim.Native.Nat.{ℕ, zero, suc, ◌<◌, ◌≤◌}
use native.Mathlib.Omega.{arith}
use mathlib.Core.Logic.{◌↔◌}
use mathlib.Core.Path.{◌≡◌, refl}
use mathlib.Core.Bool.{Bool, true, false, not, ◌||◌}
use lib.Dec.{ltb}
use lib.ListN.{length, take}
use mathlib.Core.List.{List}
use borrow.Author.Tests.{ltb-false, leb-true, le-ltb, le-leb}
use Rattle.wire.specs.Limit.{limit}
use Rattle.wire.specs.Bytes.{same}
use Rattle.wire.specs.Stop.{Stop, go, ◌⨾◌, stop_when, stop_if, stop_at}
use Rattle.wire.proofs.Bools.{by_bool, and_both, both_and, or_neither, neither_or, not_no, yes_not}
use Rattle.wire.proofs.StopLaws.{⨾-next, ⨾-stop}
use Rattle.entry_id.specs.IdRules.{IdRules}
use Rattle.bundle.specs.Table.{magic, count}
use Rattle.bundle.specs.Check.{bad_row, outside, overlap_stop, refused_of, head_stop, table_stop, rows_stop, bundle_stop}
use Rattle.bundle.specs.Accepted.{RowFits, Inside}

-- ---- which of two bundles is refused

pub first-refused : (a b : Stop) (v k : ℕ) → a.number ≡ suc k → refused_of a b v ≡ 1
unfolding refused_of
first-refused a b v k e = rw (e, refused_of)

pub second_refused : (a b : Stop) (v k : ℕ) → a.number ≡ 0 → b.number ≡ suc k → refused_of a b v ≡ 2
unfolding refused_of
second_refused a b v k e f = rw (e, f, refused_of)

pub none-refused : (v : ℕ) → refused_of go go v ≡ v
unfolding refused_of
none-refused v = refl

-- ---- the numbers of a chain

module _ (P : ℕ → Type 0) where
  pub ⨾-all : (a b : Stop) → P a.number → P b.number → P (a ⨾ b).number
  ⨾-all a b p q = cases a.number refl
    where
      cases : (k : ℕ) → a.number ≡ k → P (a ⨾ b).number
      cases zero e = rw (⨾-next a b e) q
      cases (suc k) e = rw (⨾-stop a b k e) p

  stop_when_all : (b : Bool) (t : Stop) → P 0 → P t.number → P (stop_when b t).number
  unfolding stop_when
  stop_when_all true t z h = h
  stop_when_all false t z h = z

pub head_stop_le : (s : List ℕ) → (head_stop s).number ≤ 3
unfolding head_stop stop_if
head_stop_le s =
    let when : (b : Bool) (t : Stop) → t.number ≤ 3 → (stop_when b t).number ≤ 3 = λ b t. stop_when_all (λ m. m ≤ 3) b t (omega arith) in
    ⨾-all (λ m. m ≤ 3) _ _ (when _ _ (omega arith)) (⨾-all (λ m. m ≤ 3) _ _ (when _ _ (omega arith)) (when _ _ (omega arith)))

-- 0, 1 to 8 or 21
abbrev pub Own : ℕ → Type 0
Own m = 8 < m → m ≡ 21

small_own : (m : ℕ) → m ≤ 8 → Own m
small_own m h l = omega arith

pub bundle_stop-own : (R : IdRules) (s : List ℕ) → Own (bundle_stop R s).number
unfolding bundle_stop table_stop rows_stop overlap_stop stop_at
bundle_stop-own R s =
    let when : (b : Bool) (t : Stop) → Own t.number → Own (stop_when b t).number = λ b t. stop_when_all Own b t (small_own 0 (omega arith)) in
    ⨾-all Own _ _ (small_own _ (omega (arith, head_stop_le s)))
    (⨾-all Own _ _ (when _ _ (small_own 4 (omega arith)))
    (⨾-all Own _ _ (when _ _ (small_own 5 (omega arith)))
    (⨾-all Own _ _ (when _ _ (small_own 6 (omega arith)))
    (⨾-all Own _ _ (when _ _ (λ l. refl))
    (⨾-all Own _ _ (when _ _ (small_own 7 (omega arith))) (when _ _ (small_own 8 (omega arith))))))))

-- ---- tests as facts

pub row_fits : (s : List ℕ) (from : ℕ) → bad_row s from ≡ false ↔ RowFits s from
unfolding bad_row
row_fits s from = (
  (λ e.
      let a = and_both _ _ (not_no _ e) in
      let b = and_both _ _ a.0 in
      let c = and_both _ _ b.0 in
      record { head_in = leb-true _ _ c.0; id_some = leb-true _ _ c.1; id_short = leb-true _ _ b.1; id_in = leb-true _ _ a.1 }),
  (λ f. yes_not _ (both_and _ _ (both_and _ _ (both_and _ _ (le-leb _ _ f.head_in) (le-leb _ _ f.id_some)) (le-leb _ _ f.id_short)) (le-leb _ _ f.id_in))),
)

pub row_bad : (s : List ℕ) (from : ℕ) → (RowFits s from → ⊥) → bad_row s from ≡ true
row_bad s from h = by_bool (bad_row s from) (λ t. t) (λ f. absurd (h ((row_fits s from).0 f)))

pub inside : (end len offset size : ℕ) → outside end len offset size ≡ false ↔ Inside end len offset size
unfolding outside
inside end len offset size =
    ((λ e. let a = or_neither _ _ e in record { after = ltb-false _ _ a.0; within = ltb-false _ _ a.1 }), (λ f. neither_or _ _ (le-ltb _ _ f.after) (le-ltb _ _ f.within)))

pub range_bad : (end len offset size : ℕ) → (Inside end len offset size → ⊥) → outside end len offset size ≡ true
range_bad end len offset size h = by_bool (outside end len offset size) (λ t. t) (λ f. absurd (h ((inside end len offset size).0 f)))

-- the three tests of the head decide
pub head_is : (s : List ℕ) (a b c : Bool) → ltb limit (length s) ≡ a → same (take 24 s) magic ≡ b → (ltb (length s) 32 || ltb 64 (count s)) ≡ c
    → stop_if 1 a ⨾ stop_if 2 (not b) ⨾ stop_if 3 c ≡ head_stop s
unfolding head_stop
head_is s a b c p q r = rw (p, q, r)
