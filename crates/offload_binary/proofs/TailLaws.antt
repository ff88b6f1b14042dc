-- Recovery of an accepted sequence, which comes out unchanged, alone and behind a damaged front. Assumes nothing.
use Prim.Native.Nat.{ℕ, zero, suc, ◌+◌, ◌-◌, ◌<◌, ◌≤◌}
use native.Mathlib.Omega.{arith}
use native.Mathlib.Nat.{add_assoc, add-zero}
use mathlib.Core.Path.{◌≡◌, refl, sym, ap, ap₂, ◌∙◌}
use mathlib.Core.Bool.{true}
use mathlib.Core.List.{List, [], ◌∷◌, ◌++◌, map}
use lib.ListN.{length, take, drop, length-append, length-drop, length-map}
use lib.Seq.{drop-append-add, drop-append-le, take-append-le, drop-drop}
use lib.Dec.{leb, eqb}
use Rattle.wire.specs.Bytes.{empty}
use Rattle.wire.specs.First.{first}
use Rattle.wire.specs.Limit.{limit}
use Rattle.wire.specs.Lists.{joined}
use Rattle.wire.proofs.Bools.{by_bool, by_lt, and_both}
use Rattle.wire.proofs.FirstLaws.{first-same}
use Rattle.wire.proofs.ListLaws.{joined-append}
use Rattle.offload_binary.specs.Binary.{bytes_at, size_of, binary_stop}
use Rattle.offload_binary.specs.Reader.{binaries_only, binaries_from, accepted, binaries, part_of, end_to_end}
use Rattle.offload_binary.specs.SequenceTheorems.{All}
use Rattle.offload_binary.specs.Recovery.{passes, lowest, part_at, takes, taken, skips, skipped, copied}
use Rattle.offload_binary.specs.RecoveryTheorems.{Unchanged, EndsBefore, InFront, behind, TailOut}
use Rattle.offload_binary.specs.declared.Part.{Part}
use Rattle.offload_binary.proofs.BinaryLaws.{Sized, sized}
use Rattle.offload_binary.proofs.ReaderLaws.{only_more, from_none, from_empty, from_more, at_length}
use Rattle.offload_binary.proofs.Sequences.{binary-part, whole}
use Rattle.offload_binary.proofs.RecoveryLaws.{passes_yes, lowest_from, lowest_le, lowest-before, lowest_is, lowest-none, lowest-binary, takes_yes, takes_no, gap_no, skips_nil, skips_cons}

-- ---- an accepted sequence

-- from p on n binaries may come: one more is looked for, and not found
record Out (n : ℕ) (s : List ℕ) (p : ℕ) : Type 0 where
  parts : takes (suc n) s p ≡ map part_of (binaries_from n p (drop p s))
  none : skips (length s) p (takes (suc n) s p) ≡ []

ended : (n : ℕ) (s : List ℕ) (p : ℕ) → p ≡ length s → binaries_from n p (drop p s) ≡ [] → Out n s p
ended n s p e b =
    let y : takes (suc n) s p ≡ [] = takes_no n s p (omega (arith, lowest_from s p)) in
    record { parts = y ∙ ap (map part_of) (sym b); none = ap (skips (length s) p) y ∙ skips_nil (length s) p ∙ gap_no p (length s) (omega arith) }

comes_out : (n : ℕ) (s : List ℕ) (p : ℕ) → p ≤ length s → binaries_only n (drop p s) ≡ true → Out n s p
comes_out zero s p h e = ended zero s p (at_length s p h (unfold binaries_only in e)) (from_none p (drop p s))
comes_out (suc n) s p h e =
    by_bool (empty (drop p s))
    (λ t. ended (suc n) s p (at_length s p h t) (from_empty n p (drop p s) t))
    (λ f.
    let b : List ℕ = drop p s in
    let o = only_more n b f e in
    let q : ℕ = size_of b in
    let z : Sized b = sized b o.0 in
    let l : p < length s = omega (arith, z.some, z.inside, length-drop p s) in
    let k : lowest s p ≡ p = lowest_is s p p (omega arith) l (passes_yes s p o.0) (λ i a b. absurd (omega arith)) in
    let y : takes (suc (suc n)) s p ≡ part_at s p ∷ takes (suc n) s (p + q) = takes_yes (suc n) s p (omega arith) ∙ ap (λ x. part_at s x ∷ takes (suc n) s (x + size_of (drop x s))) k in
    let d : drop q b ≡ drop (p + q) s = drop-drop q p s in
    let i : Out n s (p + q) = comes_out n s (p + q) (omega (arith, z.inside, length-drop p s)) (ap (binaries_only n) (sym d) ∙ o.1) in
    record {
      parts = y ∙ ap₂ ◌∷◌ (sym (binary-part p b z.inside)) (i.parts ∙ ap (λ x. map part_of (binaries_from n (p + q) x)) (sym d)) ∙ ap (map part_of) (sym (from_more n p b f));
      none = ap (skips (length s) p) y ∙ skips_cons (length s) p (part_at s p) (takes (suc n) s (p + q)) ∙ ap₂ ◌++◌ (gap_no p p (omega arith)) i.none;
    })

pub unchanged : (s : List ℕ) → accepted s ≡ true → Unchanged s
unfolding accepted taken skipped binaries copied
unchanged s e =
    let u = comes_out 64 s 0 (omega arith) (and_both (leb (length s) limit) (binaries_only 64 s) e).1 in
    record { parts = u.parts; nothing = u.none; bytes = ap (end_to_end s) u.parts ∙ whole s e }

-- ---- a damaged front and a tail

-- looking for more finds no more, once the search has come to the end
takes_more : (n m : ℕ) (s : List ℕ) (cursor : ℕ) → length (takes n s cursor) < n → n ≤ m → takes m s cursor ≡ takes n s cursor
takes_more zero m s cursor h l = absurd (omega arith)
takes_more (suc n) zero s cursor h l = absurd (omega arith)
takes_more (suc n) (suc m) s cursor h l =
    by_lt (lowest s cursor) (length s)
    (λ y.
    let p : ℕ = lowest s cursor in
    let end : ℕ = p + size_of (drop p s) in
    let i : takes m s end ≡ takes n s end = takes_more n m s end (omega (arith, ap length (takes_yes n s cursor y))) (omega arith) in
    takes_yes m s cursor y ∙ ap (part_at s p ∷◌) i ∙ sym (takes_yes n s cursor y))
    (λ y. takes_no m s cursor y ∙ sym (takes_no n s cursor y))

-- what is taken depends on where the search comes to
takes_same : (n : ℕ) (s : List ℕ) (x y : ℕ) → lowest s x ≡ lowest s y → takes n s x ≡ takes n s y
takes_same zero s x y e = unfold takes in refl
takes_same (suc n) s x y e =
    by_lt (lowest s x) (length s)
    (λ l. takes_yes n s x l ∙ ap (λ p. part_at s p ∷ takes n s (p + size_of (drop p s))) e ∙ sym (takes_yes n s y (omega arith)))
    (λ l. takes_no n s x l ∙ sym (takes_no n s y (omega arith)))

module _ (front tail : List ℕ) where
  abbrev F : ℕ
  F = length front

  abbrev s : List ℕ
  s = front ++ tail

  abbrev back : Part → Part
  back = behind front tail

  length_s : length s ≡ F + length tail
  length_s = length-append front tail

  there : (q : ℕ) → drop (F + q) s ≡ drop q tail
  there q = drop-append-add front tail q

  -- from the tail's first byte on, all is as in the tail
  passes-there : (q : ℕ) → passes s (F + q) ≡ passes tail q
  unfolding passes
  passes-there q = ap (λ b. eqb (binary_stop b).number 0) (there q)

  lowest-there : (q : ℕ) → lowest s (F + q) ≡ F + lowest tail q
  unfolding lowest
  lowest-there q =
      let n : length s - (F + q) ≡ length tail - q = omega (arith, length_s) in
      let e : first (length s - (F + q)) (λ i. passes s (F + q + i)) ≡ first (length tail - q) (λ i. passes tail (q + i)) =
      ap (λ k. first k (λ i. passes s (F + q + i))) n
      ∙ first-same (length tail - q) (λ i. passes s (F + q + i)) (λ i. passes tail (q + i)) (λ i h. ap (passes s) (add_assoc F q i) ∙ passes-there (q + i)) in
      omega arith

  takes-there : (n q : ℕ) → takes n s (F + q) ≡ map back (takes n tail q)
  takes-there zero q = unfold takes in refl
  takes-there (suc n) q =
      let p : ℕ = lowest tail q in
      let e : lowest s (F + q) ≡ F + p = lowest-there q in
      by_lt p (length tail)
      (λ l.
      let z : ℕ = size_of (drop p tail) in
      let w : size_of (drop (F + p) s) ≡ z = ap size_of (there p) in
      takes_yes n s (F + q) (omega (arith, length_s))
      ∙ ap (λ x. part_at s x ∷ takes n s (x + size_of (drop x s))) e
      ∙ ap (λ x. record { start = F + p; len = x } ∷ takes n s (F + p + x)) w
      ∙ ap (λ x. record { start = F + p; len = z } ∷ takes n s x) (add_assoc F p z)
      ∙ ap (λ l. record { start = F + p; len = z } ∷ l) (takes-there n (p + z))
      ∙ ap (map back) (sym (takes_yes n tail q l)))
      (λ l. takes_no n s (F + q) (omega (arith, length_s)) ∙ ap (map back) (sym (takes_no n tail q l)))

  -- nothing passes between the cursor and the tail: the search comes to the tail's first byte
  lowest_skip : (cursor : ℕ) → cursor ≤ F → F ≤ lowest s cursor → lowest s F ≡ lowest s cursor
  lowest_skip cursor a b =
      by_lt (lowest s cursor) (length s)
      (λ l. lowest_is s F (lowest s cursor) b l (passes_yes s (lowest s cursor) (lowest-binary s cursor l).sound) (λ i p q. lowest-before s cursor i (omega arith) q))
      (λ l.
      let e : lowest s cursor ≡ length s = omega (arith, lowest_le s cursor (omega (arith, length_s))) in
      lowest-none s F (omega (arith, length_s)) (λ i p q. lowest-before s cursor i (omega arith) (omega arith)) ∙ sym e)

  -- what is taken is taken from the front, and then from the tail as if it stood alone
  record Apiece (n cursor : ℕ) : Type 0 where
    fronts : List Part
    in_front : All (InFront front tail) fronts
    left : ℕ
    count : length fronts + left ≡ n
    both : takes n s cursor ≡ fronts ++ map back (takes left tail 0)

  apiece : (n cursor : ℕ) → cursor ≤ F → All (EndsBefore front tail) (takes n s cursor) → Apiece n cursor
  apiece zero cursor h e = record { fronts = []; in_front = tt; left = zero; count = omega arith; both = unfold takes in refl }
  apiece (suc n) cursor h e =
      by_lt (lowest s cursor) F
      (λ l.
      let p : ℕ = lowest s cursor in
      let end : ℕ = p + size_of (drop p s) in
      let y : takes (suc n) s cursor ≡ part_at s p ∷ takes n s end = takes_yes n s cursor (omega (arith, length_s)) in
      let e' : All (EndsBefore front tail) (part_at s p ∷ takes n s end) = rw y at e in
      let i : Apiece n end = apiece n end (e'.0 l) e'.1 in
      record {
        fronts = part_at s p ∷ i.fronts;
        in_front = ((l, e'.0 l), i.in_front);
        left = i.left;
        count = omega (arith, i.count);
        both = y ∙ ap (part_at s p ∷◌) i.both;
      })
      (λ l. record {
        fronts = [];
        in_front = tt;
        left = suc n;
        count = omega arith;
        both = takes_same (suc n) s cursor F (sym (lowest_skip cursor h l)) ∙ ap (takes (suc n) s) (sym (add-zero F)) ∙ takes-there (suc n) 0;
      })

  bytes-there : (cs : List Part) → joined (bytes_at s) (map back cs) ≡ joined (bytes_at tail) cs
  unfolding joined bytes_at
  bytes-there [] = refl
  bytes-there (c ∷ cs) = ap₂ ◌++◌ (ap (take c.len) (there c.start)) (bytes-there cs)

  bytes_front : (cs : List Part) → All (InFront front tail) cs → joined (bytes_at s) cs ≡ joined (bytes_at front) cs
  unfolding joined bytes_at
  bytes_front [] a = refl
  bytes_front (c ∷ cs) a =
      ap₂ ◌++◌
      (ap (take c.len) (drop-append-le c.start front tail (omega (arith, a.0.0))) ∙ take-append-le c.len (drop c.start front) tail (omega (arith, a.0.1, length-drop c.start front)))
      (bytes_front cs a.1)

  pub tail_out : accepted tail ≡ true → All (EndsBefore front tail) (taken s) → length (taken s) ≤ 64 → TailOut front tail
  unfolding taken copied end_to_end
  tail_out acc ends few =
      let a : Apiece 65 0 = apiece 65 0 (omega arith) ends in
      let c : Unchanged tail = unchanged tail acc in
      let t : List Part = takes a.left tail 0 in
      let l : length t < a.left = omega (arith, a.count, ap length a.both, length-append a.fronts (map back t), length-map t back) in
      let m : takes 65 tail 0 ≡ t = takes_more a.left 65 tail 0 l (omega (arith, a.count)) in
      let e : takes 65 s 0 ≡ a.fronts ++ map back (takes 65 tail 0) = a.both ∙ ap (λ x. a.fronts ++ map back x) (sym m) in
      record {
        fronts = a.fronts;
        in_front = a.in_front;
        parts = e;
        alone = c.parts;
        bytes = ap (joined (bytes_at s)) e ∙ joined-append (bytes_at s) a.fronts (map back (takes 65 tail 0))
            ∙ ap₂ ◌++◌ (bytes_front a.fronts a.in_front) (bytes-there (takes 65 tail 0) ∙ c.bytes);
      }
