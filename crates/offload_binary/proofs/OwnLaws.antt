-- A binary's own bytes: alone, and before any others, they are the same binary. Assumes nothing.
use Prim.Native.Nat.{ℕ, ◌+◌, ◌<◌, ◌≤◌}
use native.Mathlib.Omega.{arith}
use mathlib.Core.Path.{◌≡◌, sym, ap, ap₂, ◌∙◌}
use mathlib.Core.Bool.{false, not, ◌||◌}
use mathlib.Core.List.{List, ◌++◌}
use lib.ListN.{length, get_or, take, length-append, get_or-append}
use lib.Seq.{get_or-take, take_at, take-take, take-append-le}
use lib.Dec.{ltb, eqb}
use borrow.Author.Tests.{le-ltb}
use Rattle.wire.specs.Word.{word}
use Rattle.wire.specs.Bytes.{same}
use Rattle.wire.proofs.Bools.{or_neither, neither_or}
use Rattle.wire.proofs.WordLaws.{word-agree}
use Rattle.wire.proofs.StopLaws.{⨾-left, ⨾-right, ⨾-next, stop_if-go, stop_if_no}
use Rattle.offload_binary.specs.Binary.{magic, size_of, entry_at, own, entry_of, bad_head, bad_span, body_stop, binary_stop}
use Rattle.offload_binary.proofs.BinaryLaws.{Sized, sized, length-own}

module _ (b r : List ℕ) (e : (binary_stop b).number ≡ 0) where
  abbrev alone : List ℕ
  alone = own b ++ r

  z : Sized b
  z = sized b e

  l : length (own b) ≡ size_of b
  l = length-own b z.inside

  long : size_of b ≤ length alone
  long = omega (arith, l, length-append (own b) r)

  agrees : (i : ℕ) → i < size_of b → get_or alone i 0 ≡ get_or b i 0
  unfolding own
  agrees i h = get_or-append (own b) r 0 i (omega (arith, l)) ∙ get_or-take (size_of b) b i 0 h

  word-alone : (n at : ℕ) → at + n ≤ size_of b → word n alone at ≡ word n b at
  word-alone n at h = word-agree n alone b at (λ k m. agrees (at + k) (omega arith))

  pub size-alone : size_of alone ≡ size_of b
  unfolding size_of
  size-alone = word-alone 8 8 (omega (arith, z.some))

  entry-alone : entry_at alone ≡ entry_at b
  unfolding entry_at
  entry-alone = word-alone 8 16 (omega (arith, z.some))

  pub own_alone : own alone ≡ own b
  unfolding own
  own_alone = take_at (own b) r (size_of alone) (l ∙ sym size-alone)

  no_13 : bad_head b ≡ false
  unfolding binary_stop
  no_13 = stop_if_no 12 _ (⨾-left _ _ e)

  no_14 : bad_span b ≡ false
  unfolding binary_stop
  no_14 = stop_if_no 13 _ (⨾-left _ _ (⨾-right _ _ e))

  head_alone : bad_head alone ≡ false
  unfolding bad_head own
  head_alone =
      let h = or_neither (ltb (length b) 32 || not (same (take 4 b) magic)) (not (eqb (word 4 b 4) 1)) no_13 in
      let t : take 4 alone ≡ take 4 b = take-append-le 4 (own b) r (omega (arith, l, z.some)) ∙ take-take 4 (size_of b) b (omega (arith, z.some)) in
      neither_or _ _
      (neither_or _ _ (le-ltb (length alone) 32 (omega (arith, long, z.some))) (ap (λ x. not (same x magic)) t ∙ (or_neither (ltb (length b) 32) (not (same (take 4 b) magic)) h.0).1))
      (ap (λ x. not (eqb x 1)) (word-alone 4 4 (omega (arith, z.some))) ∙ h.1)

  span-alone : bad_span alone ≡ false
  unfolding bad_span
  span-alone =
      let h = or_neither (ltb (size_of b) 72 || ltb (length b) (size_of b) || not (eqb (word 8 b 24) 40) || ltb (entry_at b) 32) (ltb (size_of b) (entry_at b + 40)) no_14 in
      let i = or_neither (ltb (size_of b) 72 || ltb (length b) (size_of b) || not (eqb (word 8 b 24) 40)) (ltb (entry_at b) 32) h.0 in
      let j = or_neither (ltb (size_of b) 72 || ltb (length b) (size_of b)) (not (eqb (word 8 b 24) 40)) i.0 in
      neither_or _ _
      (neither_or _ _
      (neither_or _ _
      (neither_or _ _ (ap (λ x. ltb x 72) size-alone ∙ (or_neither _ _ j.0).0) (le-ltb (length alone) (size_of alone) (omega (arith, long, size-alone))))
      (ap (λ x. not (eqb x 40)) (word-alone 8 24 (omega (arith, z.some))) ∙ j.1))
      (ap (λ x. ltb x 32) entry-alone ∙ i.1))
      (ap₂ (λ x y. ltb x (y + 40)) size-alone entry-alone ∙ h.1)

  pub stop-alone : (binary_stop alone).number ≡ 0
  unfolding binary_stop
  stop-alone =
      ap (λ t. t.number)
      (⨾-next _ _ (ap (λ t. t.number) (stop_if-go 13 _ head_alone))
      ∙ ⨾-next _ _ (ap (λ t. t.number) (stop_if-go 14 _ span-alone))
      ∙ ap₂ (λ o at. body_stop o (entry_of o at)) own_alone entry-alone)
      ∙ ⨾-right _ _ (⨾-right _ _ e)
