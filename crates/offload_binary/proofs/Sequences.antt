-- Binaries laid end to end: written ones, and parts of any bytes; a written one, read back by the reader at any place. Assumes nothing.
use Prim.Native.Nat.{ℕ, zero, suc, ◌+◌, ◌<◌, ◌≤◌}
use native.Mathlib.Omega.{arith}
use mathlib.Core.Path.{◌≡◌, refl, sym, ap, ap₂, ◌∙◌}
use mathlib.Core.Bool.{true, false}
use mathlib.Core.List.{List, [], ◌∷◌, ◌++◌, map, append_assoc}
use lib.ListN.{length, take, drop, length-append, length-drop, take-append-drop}
use lib.Seq.{take_at, drop_at, drop-drop, drop-length}
use lib.Dec.{leb}
use borrow.Author.Tests.{le-leb}
use Rattle.wire.specs.Limit.{limit}
use Rattle.wire.specs.Bytes.{empty}
use Rattle.wire.specs.Lists.{joined}
use Rattle.wire.proofs.Bools.{by_bool, and_both, both_and}
use Rattle.wire.proofs.ByteLaws.{length_some}
use Rattle.offload_binary.specs.Binary.{bytes_at, size_of, own, binary_stop, binary}
use Rattle.offload_binary.specs.Reader.{past, next_stop, binaries_only, accepted, binaries_from, binaries, part_of, end_to_end}
use Rattle.offload_binary.specs.Contents.{Contents, contents, written}
use Rattle.offload_binary.specs.SequenceTheorems.{ReadsBack, All, IsBinary, LaysOut, laid, ListsBack}
use Rattle.offload_binary.specs.Theorems.{Writable}
use Rattle.offload_binary.specs.declared.Binary.{Binary}
use Rattle.offload_binary.specs.declared.Cursor.{Cursor}
use Rattle.offload_binary.specs.declared.Part.{Part}
use Rattle.offload_binary.proofs.AllLaws.{All-map}
use Rattle.offload_binary.proofs.BinaryLaws.{part_is, sized, length-own, start_is, size_is}
use Rattle.offload_binary.proofs.OwnLaws.{size-alone, stop-alone}
use Rattle.offload_binary.proofs.ReaderLaws.{goes_on, next-go, only_more, none_only, more_only, from_none, from_empty, from_more, at_length}
use Rattle.offload_binary.proofs.ReadBack.{long, size_back, read_go, read_back}
use Rattle.offload_binary.proofs.WrittenLaws.{Good, good}

-- ---- the reader, before a written binary

module _ (g : Contents) (front rest : List ℕ) (taken : ℕ) (ok : Good g) (few : taken < 64) (within : length (front ++ (written g ++ rest)) ≤ limit) where
  abbrev around : List ℕ
  around = front ++ (written g ++ rest)

  abbrev there : Cursor
  there = record { position = length front; taken = taken }

  behind : drop (length front) around ≡ written g ++ rest
  behind = drop_at front (written g ++ rest) (length front) refl

  goes_there : (next_stop around there).number ≡ 0
  goes_there =
      goes_on around there (record {
        within = within;
        more = λ e. omega (arith, e, length-append front (written g ++ rest), length-append (written g) rest, long g rest ok);
        few = few;
        sound = ap (λ x. (binary_stop x).number) behind ∙ ap (λ t. t.number) (read_go g rest ok);
      })

  pub reads_back : ReadsBack g front rest taken
  unfolding past
  reads_back =
      let n = next-go around there goes_there in
      let size : length front + size_of (drop (length front) around) ≡ length front + length (written g) = ap (λ x. length front + size_of x) behind ∙ ap (λ k. length front + k) (size_back g rest ok) in
      record {
        taken_up = ap (λ x. x.answer.number) n;
        moved = ap (λ x. x.cursor) n ∙ (λ i. record { position = size i; taken = taken + 1 });
        holds = ap (λ x. contents around x.answer.binary) n ∙ ap (λ x. contents around (binary (length front) x)) behind ∙ read_back g rest ok front;
      }

-- ---- binaries laid end to end, each of them the bytes of an element

module _ {A B : Type 0} (f : A → List ℕ) (held : List ℕ → Binary → B) (given : A → B) where
  -- the bytes of x are a binary with any bytes behind, and behind any bytes it holds what is given
  pub record Reads (x : A) : Type 0 where
    pub some : 1 ≤ length (f x)
    pub sound : (r : List ℕ) → (binary_stop (f x ++ r)).number ≡ 0
    pub size : (r : List ℕ) → size_of (f x ++ r) ≡ length (f x)
    pub holds : (p r : List ℕ) → held (p ++ (f x ++ r)) (binary (length p) (f x ++ r)) ≡ given x

  -- n may come, with p in front of them
  record Laid (n : ℕ) (p : List ℕ) (xs : List A) : Type 0 where
    only : binaries_only n (joined f xs) ≡ true
    back : map (held (p ++ joined f xs)) (binaries_from n (length p) (joined f xs)) ≡ map given xs

  laid-reads : (xs : List A) (n : ℕ) (p : List ℕ) → All Reads xs → length xs ≤ n → Laid n p xs
  unfolding joined
  laid-reads [] n p ok few = record { only = none_only n [] (unfold empty in refl); back = ap (map (held (p ++ []))) (nothing n) }
    where
      nothing : (n : ℕ) → binaries_from n (length p) [] ≡ []
      nothing zero = from_none (length p) []
      nothing (suc n) = from_empty n (length p) [] (unfold empty in refl)
  laid-reads (x ∷ xs) zero p ok few = absurd (omega arith)
  laid-reads (x ∷ xs) (suc n) p ok few =
      let r : List ℕ = joined f xs in
      let b : List ℕ = f x ++ r in
      let s : List ℕ = p ++ b in
      let size : size_of b ≡ length (f x) = ok.0.size r in
      let rest : drop (size_of b) b ≡ r = drop_at (f x) r (size_of b) (sym size) in
      let i : Laid n (p ++ f x) xs = laid-reads xs n (p ++ f x) ok.1 (omega arith) in
      let at : length p + size_of b ≡ length (p ++ f x) = omega (arith, size, length-append p (f x)) in
      let full : empty b ≡ false = length_some b (λ z. omega (arith, z, length-append (f x) r, ok.0.some)) in
      record {
        only = more_only n b (ok.0.sound r) (ap (binaries_only n) rest ∙ i.only);
        back =
            ap (map (held s)) (from_more n (length p) b full)
            ∙ ap₂ ◌∷◌ (ok.0.holds p r)
            (ap₂ (λ x y. map (held s) (binaries_from n x y)) at rest
            ∙ ap (λ y. map (held y) (binaries_from n (length (p ++ f x)) r)) (sym (append_assoc p (f x) r))
            ∙ i.back);
      }

  module _ (xs : List A) (ok : All Reads xs) (few : length xs ≤ 64) where
    pub lays-accepted : length (joined f xs) ≤ limit → accepted (joined f xs) ≡ true
    unfolding accepted
    lays-accepted within = both_and _ _ (le-leb _ _ within) (laid-reads xs 64 [] ok few).only

    pub lays-holds : map (held (joined f xs)) (binaries (joined f xs)) ≡ map given xs
    unfolding binaries
    lays-holds = (laid-reads xs 64 [] ok few).back

-- written binaries
pub lists_back : (gs : List Contents) → All Writable gs → length gs ≤ 64 → length (laid gs) ≤ limit → ListsBack gs
unfolding laid
lists_back gs ok few within =
    let reads : All (Reads written contents (λ g. g)) gs = All-map (λ g w. let k = good g w in record {
      some = omega (arith, long g [] k);
      sound = λ r. ap (λ t. t.number) (read_go g r k);
      size = λ r. size_back g r k;
      holds = λ p r. read_back g r k p;
    }) gs ok in
    record { is_accepted = lays-accepted written contents (λ g. g) gs reads few within; holds = lays-holds written contents (λ g. g) gs reads few ∙ same gs }
  where
    same : (l : List Contents) → map (λ g. g) l ≡ l
    same [] = refl
    same (g ∷ l) = ap (g ∷◌) (same l)

pub binary-part : (p : ℕ) (b : List ℕ) → size_of b ≤ length b → part_of (binary p b) ≡ record { start = p; len = size_of b }
binary-part p b h = let e = start_is p b in let f = size_is p b ∙ length-own b h in λ i. record { start = e i; len = f i }

-- binaries that are parts of any bytes
module _ (s : List ℕ) where
  abbrev bytes_of : List ℕ → Binary → List ℕ
  bytes_of t b = bytes_at t (part_of b)

  bytes-part : (q c r : List ℕ) (n m : ℕ) → n ≡ length q → m ≡ length c → bytes_at (q ++ (c ++ r)) (record { start = n; len = m }) ≡ c
  unfolding bytes_at
  bytes-part q c r n m e f = ap (take m) (drop_at q (c ++ r) n (sym e)) ∙ take_at c r m (sym f)

  reads-part : (p : Part) → IsBinary s p → Reads (bytes_at s) bytes_of (bytes_at s) p
  unfolding own
  reads-part p k =
      let b : List ℕ = drop p.start s in
      let o : bytes_at s p ≡ own b = sym (part_is s p) ∙ ap (λ n. take n b) k.size in
      let n : length (bytes_at s p) ≡ size_of b = ap length o ∙ length-own b (sized b k.sound).inside in
      let size : (r : List ℕ) → size_of (bytes_at s p ++ r) ≡ length (bytes_at s p) = λ r. ap (λ x. size_of (x ++ r)) o ∙ size-alone b r k.sound ∙ sym n in
      record {
        some = omega (arith, n, (sized b k.sound).some);
        sound = λ r. ap (λ x. (binary_stop (x ++ r)).number) o ∙ stop-alone b r k.sound;
        size = size;
        holds = λ q r.
            let c : List ℕ = bytes_at s p ++ r in
            let m : length (own c) ≡ length (bytes_at s p) = length-own c (omega (arith, size r, length-append (bytes_at s p) r)) ∙ size r in
            bytes-part q (bytes_at s p) r _ _ (start_is (length q) c) (size_is (length q) c ∙ m);
      }

  pub lays_out : (parts : List Part) → All (IsBinary s) parts → length parts ≤ 64 → length (end_to_end s parts) ≤ limit → LaysOut s parts
  unfolding end_to_end
  lays_out parts ok few within =
      let reads = All-map reads-part parts ok in
      record { is_accepted = lays-accepted (bytes_at s) bytes_of (bytes_at s) parts reads few within; bytes = lays-holds (bytes_at s) bytes_of (bytes_at s) parts reads few }

  -- an accepted sequence is its binaries, one directly after another
  own-part : (p : ℕ) → (binary_stop (drop p s)).number ≡ 0 → bytes_at s (part_of (binary p (drop p s))) ≡ own (drop p s)
  unfolding bytes_at own
  own-part p e = ap (bytes_at s) (binary-part p (drop p s) (sized (drop p s) e).inside)

  used_up : (n p : ℕ) → binaries_from n p (drop p s) ≡ [] → p ≡ length s → joined (bytes_at s) (map part_of (binaries_from n p (drop p s))) ≡ drop p s
  unfolding joined
  used_up n p f e = ap (λ l. joined (bytes_at s) (map part_of l)) f ∙ sym (ap (λ k. drop k s) e ∙ drop-length s)

  joined_more : (c : Part) (cs : List Part) → joined (bytes_at s) (c ∷ cs) ≡ bytes_at s c ++ joined (bytes_at s) cs
  unfolding joined
  joined_more c cs = refl

  own_rest : (p : ℕ) → own (drop p s) ++ drop (size_of (drop p s)) (drop p s) ≡ drop p s
  unfolding own
  own_rest p = take-append-drop (size_of (drop p s)) (drop p s)

  whole_from : (n p : ℕ) → p ≤ length s → binaries_only n (drop p s) ≡ true → joined (bytes_at s) (map part_of (binaries_from n p (drop p s))) ≡ drop p s
  whole_from zero p h e = used_up zero p (from_none p (drop p s)) (at_length s p h (unfold binaries_only in e))
  whole_from (suc n) p h e =
      by_bool (empty (drop p s))
      (λ t. used_up (suc n) p (from_empty n p (drop p s) t) (at_length s p h t))
      (λ f.
      let b : List ℕ = drop p s in
      let o = only_more n b f e in
      let d : drop (size_of b) b ≡ drop (p + size_of b) s = drop-drop (size_of b) p s in
      let i = whole_from n (p + size_of b) (omega (arith, (sized b o.0).inside, length-drop p s)) (ap (binaries_only n) (sym d) ∙ o.1) in
      ap (λ l. joined (bytes_at s) (map part_of l)) (from_more n p b f)
      ∙ joined_more (part_of (binary p b)) (map part_of (binaries_from n (p + size_of b) (drop (size_of b) b)))
      ∙ ap₂ ◌++◌ (own-part p o.0) (ap (λ l. joined (bytes_at s) (map part_of (binaries_from n (p + size_of b) l))) d ∙ i ∙ sym d)
      ∙ own_rest p)

  pub whole : accepted s ≡ true → end_to_end s (map part_of (binaries s)) ≡ s
  unfolding accepted end_to_end binaries
  whole e = whole_from 64 0 (omega arith) (and_both (leb (length s) limit) (binaries_only 64 s) e).1
