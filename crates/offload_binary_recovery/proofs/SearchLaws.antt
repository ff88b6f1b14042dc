-- The search for binaries, as the code makes it. Assumes nothing.
use Prim.Native.Nat.{ℕ, zero, suc, ◌+◌, ◌-◌, ◌<◌, ◌≤◌}
use native.Mathlib.Omega.{arith}
use native.Mathlib.Nat.{add-zero}
use mathlib.Core.Path.{◌≡◌, refl, sym, ap, ap₂, ◌∙◌}
use mathlib.Core.Bool.{Bool, true, false, not, ◌&&◌, ◌||◌}
use mathlib.Core.List.{List, [], ◌∷◌, ◌++◌, append_assoc, append-nil}
use lib.ListN.{length, get_or, take, drop, replicate, set, length-append, take-append-drop}
use lib.Seq.{set_at, drop-drop, get_or-drop, get_or-take}
use lib.Dec.{eqb, ltb}
use borrow.Author.Tests.{eqb-true, eq-eqb}
use Rattle.std.proofs.Common.{Some, None}
use Rattle.wire.specs.Bytes.{same}
use Rattle.wire.specs.Lists.{joined}
use Rattle.wire.specs.Stop.{◌⨾◌, stop_if, stop_when}
use Rattle.wire.specs.Word.{word, word_of}
use Rattle.wire.proofs.Bools.{by_bool, by_lt, clash, both_and, or_neither, not_no}
use Rattle.wire.proofs.ByteLaws.{same_true}
use Rattle.wire.proofs.ListLaws.{joined-append}
use Rattle.wire.proofs.WordLaws.{word_split}
use Rattle.offload_binary.specs.Binary.{magic, bytes_at, no_part, size_of, bad_head, binary_stop, binary_at, binary, answer_by}
use Rattle.offload_binary.specs.Reader.{end_to_end}
use Rattle.offload_binary.specs.Recovery.{passes, lowest, part_at, takes, taken, copied}
use Rattle.offload_binary.specs.declared.Binary.{Binary}
use Rattle.offload_binary.specs.declared.Part.{Part}
use Rattle.offload_binary.proofs.RecoveryLaws.{Lies, lies, lowest_from, lowest_is, lowest-none, lowest-binary, takes_yes, takes_no}
use Rattle.offload_binary.proofs.RecoverLaws.{length_part}
use Rattle.offload_binary_recovery.specs.Code.{NonePasses, LowestBetween, Found, Finding}

-- ---- one position

-- the first eight bytes of what passes 13
record Head (b : List ℕ) : Type 0 where
  magic_is : take 4 b ≡ magic
  version : word 4 b 4 ≡ 1

head : (b : List ℕ) → bad_head b ≡ false → Head b
unfolding bad_head
head b f =
    let h = or_neither (ltb (length b) 32 || not (same (take 4 b) magic)) (not (eqb (word 4 b 4) 1)) f in
    record {
      magic_is = same_true _ _ (not_no _ (or_neither (ltb (length b) 32) (not (same (take 4 b) magic)) h.0).1);
      version = eqb-true _ _ (not_no _ h.1);
    }

-- as one word
head_word : (b : List ℕ) → Head b → word 8 b 0 ≡ 7198539536
unfolding word word_of
head_word b h =
    let w : word 4 b 0 ≡ 2903572240 = ap (λ x. word_of 4 x) (sym (take-append-drop 4 b) ∙ ap (◌++ drop 4 b) h.magic_is) in
    omega (arith, word_split 4 4 b 0, w, h.version)

no_head : (s : List ℕ) (p : ℕ) → bad_head (drop p s) ≡ true → passes s p ≡ false
unfolding passes binary_stop stop_if stop_when ◌⨾◌
no_head s p t = rw (t, passes, binary_stop)

-- its first four bytes
pub magic-not : (s : List ℕ) (p : ℕ) → (eqb (get_or s p 0) 16 && eqb (get_or s (p + 1) 0) 255 && eqb (get_or s (p + 2) 0) 16 && eqb (get_or s (p + 3) 0) 173) ≡ false → passes s p ≡ false
magic-not s p f = by_bool (bad_head (drop p s)) (no_head s p) (λ e. clash _ (all (head (drop p s) e)) f)
  where
    byte : Head (drop p s) → (k : ℕ) → k < 4 → eqb (get_or s (p + k) 0) (get_or magic k 0) ≡ true
    byte h k l = eq-eqb _ _ (sym (get_or-drop p s k 0) ∙ sym (get_or-take 4 (drop p s) k 0 l) ∙ ap (λ x. get_or x k 0) h.magic_is)

    all : Head (drop p s) → (eqb (get_or s p 0) 16 && eqb (get_or s (p + 1) 0) 255 && eqb (get_or s (p + 2) 0) 16 && eqb (get_or s (p + 3) 0) 173) ≡ true
    all h =
        let zero-th : eqb (get_or s p 0) 16 ≡ true = ap (λ i. eqb (get_or s i 0) 16) (sym (add-zero p)) ∙ byte h 0 (omega arith) in
        both_and _ _ (both_and _ _ (both_and _ _ zero-th (byte h 1 (omega arith))) (byte h 2 (omega arith))) (byte h 3 (omega arith))

pub passes-not : (s : List ℕ) (p v : ℕ) → v ≡ word 8 s p → (v ≡ 7198539536 → ⊥) → false ≡ passes s p
unfolding word
passes-not s p v e h = sym (by_bool (bad_head (drop p s)) (no_head s p) (λ f. absurd (h (e ∙ head_word (drop p s) (head (drop p s) f)))))

pub passes_read : (s : List ℕ) (p : ℕ) → eqb (binary_at s p).number 0 ≡ passes s p
unfolding passes binary_at
passes_read s p = ap (λ k. eqb k 0) (by (binary_stop (drop p s)).number (binary p (drop p s)))
  where
    by : (k : ℕ) (b : Binary) → (answer_by k p b).number ≡ k
    by zero b = refl
    by (suc k) b = refl

pub size_at : (s : List ℕ) (p : ℕ) → word 8 s (p + 8) ≡ size_of (drop p s)
unfolding size_of word
size_at s p = ap (word_of 8) (sym (drop-drop 8 p s))

-- what does not pass below p, nor at p, does not below p + 1
pub none_more : (s : List ℕ) (p k : ℕ) → (k < p → passes s k ≡ false) → passes s p ≡ false → k < p + 1 → passes s k ≡ false
none_more s p k below here h = by_lt k p below (λ g. let e : k ≡ p = omega arith in ap (passes s) e ∙ here)

-- one more position of a block looked at
pub block_more : (s : List ℕ) (p at : ℕ) (hit this : Bool) → (hit ≡ false → NonePasses s p at) → (this ≡ false → passes s at ≡ false) → (hit || this) ≡ false → NonePasses s p (at + 1)
block_more s p at hit this f g e k a h = let n = or_neither hit this e in none_more s at k (λ m. f n.0 k a m) (g n.1) h

-- the lowest of all
pub lowest-found : (s : List ℕ) (cursor p : ℕ) → LowestBetween s cursor (length s) (Some p) → p ≡ lowest s cursor
lowest-found s cursor p g = sym (lowest_is s cursor p g.0 g.1 g.3 g.2)

pub lowest-missed : (s : List ℕ) (cursor : ℕ) → cursor ≤ length s → LowestBetween s cursor (length s) None → length s ≤ lowest s cursor
lowest-missed s cursor h g = omega (arith, lowest-none s cursor h g)

-- the binary found
found_lies : (s : List ℕ) (cursor p : ℕ) → p ≡ lowest s cursor → p < length s → Lies s (part_at s p)
found_lies s cursor p e h = lies s (part_at s p) (rw e (lowest-binary s cursor (omega arith)))

pub found-fits : (s : List ℕ) (cursor p size : ℕ) → p ≡ lowest s cursor → p < length s → size ≡ word 8 s (p + 8) → p + size ≤ length s
found-fits s cursor p size e h z = omega (arith, z, size_at s p, (found_lies s cursor p e h).inside)

-- ---- all of them

pub begin : (s : List ℕ) → Finding s 0 0 0 (replicate 65 no_part)
unfolding end_to_end joined taken
begin s = record { done = []; n_is = refl; few = omega arith; inside = omega arith; list_is = refl; total_is = refl; total_le = omega arith; rest = refl }

module _ (s : List ℕ) (n cursor total : ℕ) (list : List Part) (g : Finding s n cursor total list) where
  all_found : takes (65 - n) s cursor ≡ [] → Found s n total list
  unfolding copied
  all_found none =
      let all : taken s ≡ g.done = g.rest ∙ ap (λ l. g.done ++ l) none ∙ append-nil g.done in
      record {
        listed = record { count_is = g.n_is ∙ ap length (sym all); list_is = g.list_is ∙ ap (λ d. d ++ replicate (65 - length d) no_part) (sym all) };
        total_is = g.total_is ∙ ap (λ d. length (end_to_end s d)) (sym all);
      }

  -- none is left
  pub finished : length s ≤ lowest s cursor → Found s n total list
  finished h = all_found (gone (65 - n))
    where
      gone : (k : ℕ) → takes k s cursor ≡ []
      gone zero = unfold takes in refl
      gone (suc k) = takes_no k s cursor h

  -- 65 are found
  pub full : 65 ≤ n → Found s n total list
  full h = all_found (let z : 65 - n ≡ 0 = omega arith in ap (λ k. takes k s cursor) z ∙ none)
    where
      none : takes 0 s cursor ≡ []
      none = unfold takes in refl

  -- one more
  module _ (l : n < 65) (p : ℕ) (e : p ≡ lowest s cursor) (h : p < length s) (size : ℕ) (z : size ≡ size_of (drop p s)) where
    there : Lies s (part_at s p)
    there = found_lies s cursor p e h

    pub next_turn : Finding s (n + 1) (p + size) (total + size) (set list n (record { start = p; len = size }))
    unfolding end_to_end
    next_turn =
        let c : Part = part_at s p in
        let k : 65 - n ≡ suc (65 - (n + 1)) = omega arith in
        let m : 65 - length g.done ≡ suc (65 - (n + 1)) = omega (arith, g.n_is) in
        let t : length (g.done ++ (c ∷ [])) ≡ n + 1 = length-append g.done (c ∷ []) ∙ omega (arith, g.n_is) in
        record {
          done = g.done ++ (c ∷ []);
          n_is = sym t;
          few = omega arith;
          inside = omega (arith, there.inside, z);
          total_is = omega (arith, g.total_is, z, more c there.inside);
          total_le = omega (arith, g.total_le, e, lowest_from s cursor);
          list_is =
              ap₂ (λ x y. set x n (record { start = p; len = y })) (g.list_is ∙ ap (λ y. g.done ++ replicate y no_part) m) z
              ∙ set_at g.done no_part (replicate (65 - (n + 1)) no_part) c n (sym g.n_is)
              ∙ sym (append_assoc g.done (c ∷ []) (replicate (65 - (n + 1)) no_part))
              ∙ ap (λ y. (g.done ++ (c ∷ [])) ++ replicate (65 - y) no_part) (sym t);
          rest =
              g.rest
              ∙ ap (λ y. g.done ++ takes y s cursor) k
              ∙ ap (λ x. g.done ++ x) (takes_yes (65 - (n + 1)) s cursor (omega arith) ∙ ap (λ x. part_at s x ∷ takes (65 - (n + 1)) s (x + size_of (drop x s))) (sym e))
              ∙ ap (λ y. g.done ++ (c ∷ takes (65 - (n + 1)) s (p + y))) (sym z)
              ∙ sym (append_assoc g.done (c ∷ []) (takes (65 - (n + 1)) s (p + size)));
        }
      where
        one : (c : Part) → joined (bytes_at s) (c ∷ []) ≡ bytes_at s c
        one c = unfold joined in (append-nil (bytes_at s c))

        more : (c : Part) → c.start + c.len ≤ length s → length (joined (bytes_at s) (g.done ++ (c ∷ []))) ≡ length (joined (bytes_at s) g.done) + c.len
        more c q =
            omega (arith, ap length (joined-append (bytes_at s) g.done (c ∷ [])), length-append (joined (bytes_at s) g.done) (joined (bytes_at s) (c ∷ [])), ap length (one c), length_part s c q)
