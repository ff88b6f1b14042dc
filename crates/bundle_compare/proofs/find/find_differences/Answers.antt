use Prim.Native.Nat.{ℕ, ◌+◌, ◌-◌, ◌<◌, ◌≤◌}
use native.Mathlib.Omega.{arith}
use mathlib.Core.Path.{◌≡◌, ap, ap₂, ◌∙◌}
use mathlib.Core.Logic.{inl, inr}
use mathlib.Core.List.{List, ◌++◌}
use lib.ListN.{length, drop, take, length-drop, length-take}
use lib.Seq.{take_all}
use Rattle.bundle.proofs.WalkLaws.{walk_rising}
use Rattle.normal_form.specs.declared.Entry.{Entry}
use Rattle.bundle_compare.specs.Code.{shown_all}
use Rattle.bundle_compare.specs.declared.find.Difference.{Difference as Found}
use Rattle.bundle_compare.proofs.FindLaws.{Progress, progress_left, progress_right, progress_none_found, progress_found, lefts, rights, all_short, all_found}
use Rattle.bundle_compare.proofs.find.find_differences.Goals.{in-Some, in_default, then-loop-i-test+else-j-right, else-loop-i-test}
use Rattle.bundle_compare.proofs.find.find_differences.Goals as goal

-- what holds of the differences that were found holds of those in the first places
placed : (P : List Found → Type 0) (n count : ℕ) (list found : List Found) → count ≡ n → take n list ≡ found → P found → P (take count list)
placed P n count list found e q p = rw (e, q) p

-- there is room for one more
room : (l r : List Entry) (found : List Found) (count i j all : ℕ) → count ≤ length found → Progress l r (take count found) i j → i < length l → j < length r → length l + length r ≤ all → length found ≡ all → count < length found
room l r found count i j all h p hi hj few e = omega (arith, p.few, length-take count found)

pub loop-i-preserved-in-Less : goal.loop-i-preserved-in-Less
loop-i-preserved-in-Less c =
    let a = c.args in
    let l = c.loop-i in
    let e = c.add-count.ensures in
    let more = room a.left.now a.right.now l.found l.count l.i l.j _ l.invariant.0 l.invariant.1 (omega arith) (omega arith) c.requires.few l.auto.found in (
      omega (arith, e.count, c.add-count.auto.found, more),
      placed (λ z. Progress a.left.now a.right.now z (l.i + 1) l.j) _ _ _ _ e.count e.found_after
          (progress_left a.left.now a.right.now c.requires.short.0 c.requires.short.1 _ l.i l.j l.invariant.1 (omega arith) (omega arith) c.in-Less.ensures),
    )

pub loop-i-preserved-in-Greater : goal.loop-i-preserved-in-Greater
loop-i-preserved-in-Greater c =
    let a = c.args in
    let l = c.loop-i in
    let e = c.add-count-in-Greater.ensures in
    let more = room a.left.now a.right.now l.found l.count l.i l.j _ l.invariant.0 l.invariant.1 (omega arith) (omega arith) c.requires.few l.auto.found in (
      omega (arith, e.count, c.add-count-in-Greater.auto.found, more),
      placed (λ z. Progress a.left.now a.right.now z l.i (l.j + 1)) _ _ _ _ e.count e.found_after
          (progress_right a.left.now a.right.now c.requires.short.0 c.requires.short.1 _ l.i l.j l.invariant.1 (omega arith) (omega arith) c.in-Greater.ensures),
    )

pub loop-i-preserved : goal.loop-i-preserved
loop-i-preserved c =
    let a = c.args in
    let l = c.loop-i in
    let o = c.first_difference in
    let more = room a.left.now a.right.now l.found l.count l.i l.j _ l.invariant.0 l.invariant.1 (omega arith) (omega arith) c.requires.few l.auto.found in
    elim c.match-first_difference.branch [
      | in-Some w ↦ rw (w.found-is, w.count-is) (
        omega (arith, w.add-count-in-Some.ensures.count, w.add-count-in-Some.auto.found, more),
        placed (λ z. Progress a.left.now a.right.now z (l.i + 1) (l.j + 1)) _ _ _ _ w.add-count-in-Some.ensures.count w.add-count-in-Some.ensures.found_after
            (progress_found a.left.now a.right.now c.requires.short.0 c.requires.short.1 _ l.i l.j l.invariant.1 (omega arith) (omega arith) c.in-Equal.ensures o.result o.ensures w.in-Some.at w.in-Some.is),
      )
      | in_default w ↦ rw (w.found-is, w.count-is) (
        l.invariant.0,
        progress_none_found a.left.now a.right.now c.requires.short.0 c.requires.short.1 _ l.i l.j l.invariant.1 (omega arith) (omega arith) c.in-Equal.ensures o.result o.ensures w.in_default.not-Some,
      )
    ]

-- a part to the end, as far as its end
whole : (es : List Entry) (i k : ℕ) → i ≤ length es → length (take (length es - i) (drop i es)) ≤ k → take k (take (length es - i) (drop i es)) ≡ drop i es
whole es i k h l = take_all k (take (length es - i) (drop i es)) l ∙ take_all (length es - i) (drop i es) (omega (arith, length-drop i es))

pub returns : goal.returns
returns c =
    let l = c.args.left.now in
    let r = c.args.right.now in
    let i = c.loop-i.i in
    let j = c.loop-i.j in
    let v = c.loop-i.invariant.1 in
    let found = take c.loop-i.count c.loop-i.found in
    let first : take c.loop-l.count c.loop-l.found ≡ found ++ lefts (drop i l) = c.loop-l.invariant.1 ∙ ap (λ z. found ++ lefts z) (whole l i c.loop-l.l-index v.left_in c.loop-l-test.false) in
    let all : take c.loop-r.count c.loop-r.found ≡ found ++ lefts (drop i l) ++ rights (drop j r) = c.loop-r.invariant.1 ∙ ap₂ (λ x z. x ++ rights z) first (whole r j c.loop-r.r-index v.right_in c.loop-r-test.false) in
    record {
      value =
          ap shown_all all
          ∙ all_found l r found i j v (elim c.loop-i-test.branch [ then-loop-i-test+else-j-right w ↦ inr (omega (arith, w.if-j-right.false)) | else-loop-i-test w ↦ inl (omega (arith, w.loop-i-test.false)) ])
          ∙ walk_rising _ _ c.requires.rising.0 c.requires.rising.1;
      fits = (
        omega (
          arith,
          c.loop-l.invariant.0,
          c.loop-r.invariant.0,
          c.loop-i.invariant.0,
          v.few,
          v.left_in,
          v.right_in,
          length-take c.loop-i.count c.loop-i.found,
          c.loop-l.auto.l-index-end,
          c.loop-r.auto.r-index-end,
          length-take (length l - i) (drop i l),
          length-drop i l,
          length-take (length r - j) (drop j r),
          length-drop j r,
        ),
        rw all (all_short l r found i j v c.requires.short.0 c.requires.short.1),
      );
    }
