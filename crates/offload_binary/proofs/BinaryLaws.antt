-- Laws of one binary: parts, and what the tests 13 to 17 leave where they do not apply. Assumes nothing.
use Prim.Native.Nat.{ℕ, min, ◌+◌, ◌-◌, ◌<◌, ◌≤◌}
use native.Mathlib.Omega.{arith}
use mathlib.Core.Path.{◌≡◌, refl, sym, ap, ◌∙◌}
use mathlib.Core.Bool.{false, not, ◌||◌}
use mathlib.Core.List.{List}
use lib.ListN.{length, take, drop, length-drop, drop_of_length-le}
use lib.Dec.{ltb, eqb}
use mathlib.Core.Logic.{⊎_elim}
use Rattle.std.proofs.lemmas.Bool.{cases_lt}
use Rattle.std.proofs.lemmas.List.{take_min}
use lib.Seq.{length-take-le, take_all}
use borrow.Author.Tests.{ltb-false}
use Rattle.wire.specs.Word.{word}
use Rattle.wire.proofs.Bools.{or_neither}
use Rattle.wire.proofs.StopLaws.{⨾-left, ⨾-right, stop_if_no}
use Rattle.offload_binary.specs.Binary.{bytes_at, size_of, entry_at, own, bad_span, binary_stop, binary, hands_back}
use Rattle.offload_binary.specs.declared.Part.{Part}

-- ---- parts

-- a part, cut off where the bytes end
pub part_cut : (s : List ℕ) (p : Part) (a n : ℕ) → a ≡ min p.start (length s) → n ≡ min p.len (length (take (length s - a) (drop a s))) → take n (take (length s - a) (drop a s)) ≡ bytes_at s p
unfolding bytes_at
part_cut s p a n e f =
    let rest : List ℕ = take (length s - a) (drop a s) in
    ap (λ k. take k rest) f ∙ take_min p.len rest ∙ ap (take p.len) (take_all (length s - a) (drop a s) (omega (arith, length-drop a s)) ∙ from)
  where
    from : drop a s ≡ drop p.start s
    from =
        ⊎_elim
        (λ (h : length s < p.start). let z : a ≡ length s = omega arith in ap (λ k. drop k s) z ∙ drop_of_length-le s {i = length s} (omega arith) ∙ sym (drop_of_length-le s {i = p.start} (omega arith)))
        (λ (h : p.start ≤ length s). let z : a ≡ p.start = omega arith in ap (λ k. drop k s) z)
        (cases_lt (length s) p.start)

pub part_is : (s : List ℕ) (p : Part) → take p.len (drop p.start s) ≡ bytes_at s p
unfolding bytes_at
part_is s p = refl

-- ---- the size of a binary that none of 13 to 17 refuses

pub record Sized (b : List ℕ) : Type 0 where
  pub some : 72 ≤ size_of b
  pub inside : size_of b ≤ length b
  pub within : entry_at b + 40 ≤ size_of b

pub span_sized : (b : List ℕ) → bad_span b ≡ false → Sized b
unfolding bad_span
span_sized b f =
    let span = or_neither (ltb (size_of b) 72 || ltb (length b) (size_of b) || not (eqb (word 8 b 24) 40) || ltb (entry_at b) 32) (ltb (size_of b) (entry_at b + 40)) f in
    let size = or_neither _ _ (or_neither _ _ (or_neither _ _ span.0).0).0 in
    record { some = ltb-false _ _ size.0; inside = ltb-false _ _ size.1; within = ltb-false _ _ span.1 }

pub sized : (b : List ℕ) → (binary_stop b).number ≡ 0 → Sized b
unfolding binary_stop
sized b e = span_sized b (stop_if_no 13 _ (⨾-left _ _ (⨾-right _ _ e)))

pub length-own : (b : List ℕ) → size_of b ≤ length b → length (own b) ≡ size_of b
unfolding own
length-own b h = length-take-le (size_of b) b h

-- what a binary hands back of its place
pub start_is : (from : ℕ) (b : List ℕ) → (binary from b).start ≡ from
unfolding binary hands_back
start_is from b = refl

pub size_is : (from : ℕ) (b : List ℕ) → (binary from b).size ≡ length (own b)
unfolding binary hands_back
size_is from b = refl
