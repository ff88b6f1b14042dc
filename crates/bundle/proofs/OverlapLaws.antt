-- Images that share bytes. Assumes nothing.
use Prim.Native.Nat.{◌+◌, ◌<◌, ◌≤◌}
use native.Mathlib.Omega.{arith}
use mathlib.Core.Path.{◌≡◌, sym, ap}
use mathlib.Core.Logic.{◌↔◌}
use mathlib.Core.Bool.{true, false}
use lib.Dec.{ltb}
use borrow.Author.Tests.{ltb-true, ltb-false, lt-ltb, eqb-true, eq-eqb, not-true}
use Rattle.wire.proofs.Bools.{by_bool, clash, and_both, both_and}
use Rattle.entry_id.specs.IdRules.{IdRules}
use Rattle.bundle.specs.Table.{Row, row}
use Rattle.bundle.specs.Check.{share_byte, same_span, overlaps}
use Rattle.bundle.specs.Theorems.{Shared, SameSpan, ImagesApart}

module _ (r q : Row) where
  -- either starts before the other ends, and before its own end
  abbrev Crossed : Type 0
  Crossed = ((r.offset < r.offset + r.size) × (q.offset < q.offset + q.size)) × ((r.offset < q.offset + q.size) × (q.offset < r.offset + r.size))

  crossed : share_byte r q ≡ true → Crossed
  unfolding share_byte
  crossed t =
      let a = and_both _ _ t in
      let b = and_both _ _ a.0 in
      let c = and_both _ _ b.0 in
      ((omega (arith, ltb-true 0 r.size c.0), omega (arith, ltb-true 0 q.size c.1)), (ltb-true _ _ b.1, ltb-true _ _ a.1))

  -- the later start is a byte of both
  shared : Crossed → Shared r q
  shared ((x, y), (z, w)) =
      by_bool (ltb r.offset q.offset)
      (λ l. let m = ltb-true r.offset q.offset l in record { at = q.offset; in_first = (omega (arith, m), w); in_second = (omega arith, y) })
      (λ l. let m = ltb-false r.offset q.offset l in record { at = r.offset; in_first = (omega arith, x); in_second = (m, z) })

  shares : Shared r q → share_byte r q ≡ true
  unfolding share_byte
  shares b =
      let (x, y) = b.in_first in
      let (z, w) = b.in_second in
      let e : ltb 0 r.size ≡ true = lt-ltb 0 r.size (omega (arith, x, y)) in
      let f : ltb 0 q.size ≡ true = lt-ltb 0 q.size (omega (arith, z, w)) in
      let g : ltb r.offset (q.offset + q.size) ≡ true = lt-ltb r.offset (q.offset + q.size) (omega (arith, x, w)) in
      let h : ltb q.offset (r.offset + r.size) ≡ true = lt-ltb q.offset (r.offset + r.size) (omega (arith, z, y)) in
      both_and _ _ (both_and _ _ (both_and _ _ e f) g) h

  span : (same_span r q ≡ true) ↔ SameSpan r q
  unfolding same_span
  span = ((λ t. let a = and_both _ _ t in (eqb-true _ _ a.0, eqb-true _ _ a.1)), (λ e. both_and _ _ (eq-eqb _ _ e.0) (eq-eqb _ _ e.1)))

  pub overlap_exact : (overlaps r q ≡ true) ↔ (Shared r q × (SameSpan r q → ⊥))
  unfolding overlaps
  overlap_exact = (
    (λ t. let a = and_both _ _ t in (shared (crossed a.0), (λ e. clash _ (span.1 e) (not-true _ a.1)))),
    (λ b. both_and _ _ (shares b.0) (by_bool (same_span r q) (λ t. absurd (b.1 (span.0 t))) (λ f. rw f))),
  )

  -- ---- images that lie apart

  unshared : (Shared r q → ⊥) → overlaps r q ≡ false
  unshared h = by_bool (overlaps r q) (λ t. absurd (h (overlap_exact.0 t).0)) (λ f. f)

  pub apart-after : r.offset + r.size ≤ q.offset → overlaps r q ≡ false
  apart-after h = unshared (λ b. omega (arith, b.in_first.1, b.in_second.0))

  pub apart-before : q.offset + q.size ≤ r.offset → overlaps r q ≡ false
  apart-before h = unshared (λ b. omega (arith, b.in_first.0, b.in_second.1))

  one_span : overlaps r q ≡ false → Shared r q → SameSpan r q
  one_span h b = by_bool (same_span r q) (λ t. span.0 t) (λ f. clash (overlaps r q) (overlap_exact.1 (b, (λ e. clash _ (span.1 e) f))) h)

pub images-apart : (R : IdRules) → ImagesApart R
images-apart R s a i j h k b =
    by_bool (ltb i j)
    (λ t. one_span (row s i) (row s j) (a.apart j k i (ltb-true i j t)) b)
    (λ f.
    by_bool (ltb j i)
    (λ t. let e = one_span (row s j) (row s i) (a.apart i h j (ltb-true j i t)) (record { at = b.at; in_first = b.in_second; in_second = b.in_first }) in (sym e.0, sym e.1))
    (λ g. let e : i ≡ j = omega (arith, ltb-false i j f, ltb-false j i g) in (ap (λ m. (row s m).offset) e, ap (λ m. (row s m).size) e)))
