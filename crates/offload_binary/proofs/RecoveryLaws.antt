-- Laws of recovery: the lowest position, and that what is copied and what is skipped are the whole sequence. Assumes nothing.
use Prim.Native.Nat.{ℕ, zero, suc, ◌+◌, ◌-◌, ◌<◌, ◌≤◌}
use native.Mathlib.Omega.{arith}
use mathlib.Core.Path.{◌≡◌, refl, sym, ap, ◌∙◌}
use mathlib.Core.Bool.{true, false}
use mathlib.Core.List.{List, [], ◌∷◌, ◌++◌}
use lib.ListN.{length, drop, length-drop}
use borrow.Author.Tests.{eq-eqb, eqb-true, le-ltb, lt-ltb, le-leb, lt-leb}
use Rattle.wire.specs.Lists.{total}
use Rattle.wire.specs.First.{first}
use Rattle.wire.proofs.Bools.{by_lt, clash}
use Rattle.wire.proofs.FirstLaws.{first_le, first_at, first-before, first_is, first-none}
use Rattle.wire.proofs.ListLaws.{total-append}
use Rattle.offload_binary.specs.Binary.{size_of, binary_stop}
use Rattle.offload_binary.specs.SequenceTheorems.{All, IsBinary}
use Rattle.offload_binary.specs.Recovery.{passes, lowest, part_at, takes, taken, gap, skips, skipped}
use Rattle.offload_binary.specs.RecoveryTheorems.{has, times, Apart, Pairs, WholeSequence, Lowest, TakenFrom, LowestEach}
use Rattle.offload_binary.specs.declared.Part.{Part}
use Rattle.offload_binary.proofs.AllLaws.{All-append, All-map, Pairs-append}
use Rattle.offload_binary.proofs.BinaryLaws.{sized}

-- ---- one position

pub passes_yes : (s : List ℕ) (p : ℕ) → (binary_stop (drop p s)).number ≡ 0 → passes s p ≡ true
unfolding passes
passes_yes s p e = eq-eqb _ _ e

yes_passes : (s : List ℕ) (p : ℕ) → passes s p ≡ true → (binary_stop (drop p s)).number ≡ 0
unfolding passes
yes_passes s p e = eqb-true _ _ e

-- where a binary lies
pub record Lies (s : List ℕ) (c : Part) : Type 0 where
  pub some : 72 ≤ c.len
  pub inside : c.start + c.len ≤ length s

pub lies : (s : List ℕ) (c : Part) → IsBinary s c → Lies s c
lies s c b =
    let z = sized (drop c.start s) b.sound in
    record { some = omega (arith, z.some, b.size); inside = omega (arith, z.some, z.inside, b.size, length-drop c.start s) }

-- ---- the lowest position

module _ (s : List ℕ) (cursor : ℕ) where
  pub lowest_from : cursor ≤ lowest s cursor
  unfolding lowest
  lowest_from = omega arith

  pub lowest_le : cursor ≤ length s → lowest s cursor ≤ length s
  unfolding lowest
  lowest_le h = omega (arith, first_le (length s - cursor) (λ i. passes s (cursor + i)))

  lowest-passes : lowest s cursor < length s → passes s (lowest s cursor) ≡ true
  unfolding lowest
  lowest-passes h = first_at (length s - cursor) (λ i. passes s (cursor + i)) (omega arith)

  pub lowest-binary : lowest s cursor < length s → IsBinary s (part_at s (lowest s cursor))
  lowest-binary h = record { sound = yes_passes s (lowest s cursor) (lowest-passes h); size = refl }

  pub lowest-before : (i : ℕ) → cursor ≤ i → i < lowest s cursor → passes s i ≡ false
  unfolding lowest
  lowest-before i a b =
      let e : cursor + (i - cursor) ≡ i = omega arith in
      ap (passes s) (sym e) ∙ first-before (length s - cursor) (λ j. passes s (cursor + j)) (i - cursor) (omega arith)

  pub lowest_is : (r : ℕ) → cursor ≤ r → r < length s → passes s r ≡ true → ((i : ℕ) → cursor ≤ i → i < r → passes s i ≡ false) → lowest s cursor ≡ r
  unfolding lowest
  lowest_is r a b t f =
      let e : cursor + (r - cursor) ≡ r = omega arith in
      let k : first (length s - cursor) (λ i. passes s (cursor + i)) ≡ r - cursor =
      first_is (length s - cursor) (λ i. passes s (cursor + i)) (r - cursor) (omega arith) (ap (passes s) e ∙ t) (λ i h. f (cursor + i) (omega arith) (omega arith)) in
      omega arith

  pub lowest-none : cursor ≤ length s → ((i : ℕ) → cursor ≤ i → i < length s → passes s i ≡ false) → lowest s cursor ≡ length s
  unfolding lowest
  lowest-none a f =
      let k = first-none (length s - cursor) (λ i. passes s (cursor + i)) (λ i h. f (cursor + i) (omega arith) (omega arith)) in
      omega arith

pub takes_yes : (n : ℕ) (s : List ℕ) (cursor : ℕ) → lowest s cursor < length s
    → takes (suc n) s cursor ≡ part_at s (lowest s cursor) ∷ takes n s (lowest s cursor + size_of (drop (lowest s cursor) s))
unfolding takes
takes_yes n s cursor h = rw (lt-ltb _ _ h, takes)

pub takes_no : (n : ℕ) (s : List ℕ) (cursor : ℕ) → length s ≤ lowest s cursor → takes (suc n) s cursor ≡ []
unfolding takes
takes_no n s cursor h = rw (le-ltb _ _ h, takes)

pub takes_few : (n : ℕ) (s : List ℕ) (cursor : ℕ) → length (takes n s cursor) ≤ n
takes_few zero s cursor = unfold takes in (omega arith)
takes_few (suc n) s cursor =
    by_lt (lowest s cursor) (length s)
    (λ l. omega (arith, ap length (takes_yes n s cursor l), takes_few n s (lowest s cursor + size_of (drop (lowest s cursor) s))))
    (λ l. omega (arith, ap length (takes_no n s cursor l)))

pub takes_from : (n : ℕ) (s : List ℕ) (cursor : ℕ) → TakenFrom s cursor (takes n s cursor)
takes_from zero s cursor = unfold takes in tt
takes_from (suc n) s cursor =
    by_lt (lowest s cursor) (length s)
    (λ l.
    let p : ℕ = lowest s cursor in
    let this : Lowest s cursor (part_at s p) = record {
      from = lowest_from s cursor;
      is_binary = lowest-binary s cursor l;
      none_before = λ i a b e. clash (passes s i) (passes_yes s i e) (lowest-before s cursor i a b);
    } in
    rw (takes_yes n s cursor l) (this, takes_from n s (p + size_of (drop p s))))
    (λ l. rw (takes_no n s cursor l) tt)

-- ---- the parts taken, and what is skipped

pub gap_yes : (from to : ℕ) → from < to → gap from to ≡ record { start = from; len = to - from } ∷ []
unfolding gap
gap_yes from to h = rw (lt-ltb _ _ h, gap)

pub gap_no : (from to : ℕ) → to ≤ from → gap from to ≡ []
unfolding gap
gap_no from to h = rw (le-ltb _ _ h, gap)

pub skips_nil : (end cursor : ℕ) → skips end cursor [] ≡ gap cursor end
unfolding skips
skips_nil end cursor = refl

pub skips_cons : (end cursor : ℕ) (c : Part) (cs : List Part) → skips end cursor (c ∷ cs) ≡ gap cursor c.start ++ skips end (c.start + c.len) cs
unfolding skips
skips_cons end cursor c cs = refl

has_in : (i : ℕ) (c : Part) → c.start ≤ i → i < c.start + c.len → has i c ≡ 1
unfolding has
has_in i c a b = rw (le-leb _ _ a, lt-ltb _ _ b, has)

has_low : (i : ℕ) (c : Part) → i < c.start → has i c ≡ 0
unfolding has
has_low i c a = rw (lt-leb _ _ a, has)

has_high : (i : ℕ) (c : Part) → c.start ≤ i → c.start + c.len ≤ i → has i c ≡ 0
unfolding has
has_high i c a b = rw (le-leb _ _ a, le-ltb _ _ b, has)

-- from one place to another
abbrev span : ℕ → ℕ → Part
span from to = record { start = from; len = to - from }

times_none : (i : ℕ) → times i [] ≡ 0
unfolding total
times_none i = refl

times-one : (i : ℕ) (c : Part) (cs : List Part) → times i (c ∷ cs) ≡ has i c + times i cs
unfolding total
times-one i c cs = refl

times-gap : (i from to : ℕ) → from ≤ to → times i (gap from to) ≡ has i (span from to)
times-gap i from to h =
    by_lt from to
    (λ l. ap (times i) (gap_yes from to l) ∙ omega (arith, times-one i (span from to) [], times_none i))
    (λ l. ap (times i) (gap_no from to l) ∙ times_none i ∙ by_lt i from (λ a. sym (has_low i (span from to) a)) (λ a. sym (has_high i (span from to) a (omega arith))))

-- two spans one directly after another hold what the span of both holds
has-cut : (i from at to : ℕ) → from ≤ at → at ≤ to → has i (span from to) ≡ has i (span from at) + has i (span at to)
has-cut i from at to h k =
    by_lt i from
    (λ a. omega (arith, has_low i (span from to) a, has_low i (span from at) a, has_low i (span at to) (omega arith)))
    (λ a. by_lt i at
    (λ b. omega (arith, has_in i (span from to) a (omega arith), has_in i (span from at) a (omega arith), has_low i (span at to) b))
    (λ b. by_lt i to
    (λ c. omega (arith, has_in i (span from to) a (omega arith), has_high i (span from at) a (omega arith), has_in i (span at to) b (omega arith)))
    (λ c. omega (arith, has_high i (span from to) a (omega arith), has_high i (span from at) a (omega arith), has_high i (span at to) b (omega arith)))))

has_part : (i : ℕ) (c : Part) → has i (span c.start (c.start + c.len)) ≡ has i c
has_part i c = let e : c.start + c.len - c.start ≡ c.len = omega arith in ap (λ n. has i (record { start = c.start; len = n })) e

-- every byte from the cursor on lies in one of them and in one only; no other byte in any
exact : (s : List ℕ) (cursor : ℕ) (cs : List Part) → cursor ≤ length s → TakenFrom s cursor cs → (i : ℕ)
    → times i cs + times i (skips (length s) cursor cs) ≡ has i (span cursor (length s))
exact s cursor [] h t i = omega (arith, times_none i, ap (times i) (skips_nil (length s) cursor), times-gap i cursor (length s) h)
exact s cursor (c ∷ cs) h t i =
    let end : ℕ = c.start + c.len in
    let q : end ≤ length s = (lies s c t.0.is_binary).inside in
    let a : cursor ≤ c.start = t.0.from in
    let ih : times i cs + times i (skips (length s) end cs) ≡ has i (span end (length s)) = exact s end cs q t.1 i in
    let sk : times i (skips (length s) cursor (c ∷ cs)) ≡ times i (gap cursor c.start) + times i (skips (length s) end cs) =
    ap (times i) (skips_cons (length s) cursor c cs) ∙ total-append (has i) (gap cursor c.start) (skips (length s) end cs) in
    omega (arith, ih, sk, times-one i c cs, times-gap i cursor c.start a, has_part i c, has-cut i cursor c.start (length s) a (omega arith), has-cut i c.start end (length s) (omega arith) q)

-- what is skipped rises, and between two spans something is copied

gap_all : (from to : ℕ) (P : Part → Type 0) → (from < to → P (span from to)) → All P (gap from to)
gap_all from to P h = by_lt from to (λ l. rw (gap_yes from to l) (h l, tt)) (λ l. rw (gap_no from to l) tt)

gap_pairs : (from to : ℕ) (R : Part → Part → Type 0) → Pairs R (gap from to)
gap_pairs from to R = by_lt from to (λ l. rw (gap_yes from to l) (tt, tt)) (λ l. rw (gap_no from to l) tt)

-- not empty, and not before the cursor
abbrev From : ℕ → Part → Type 0
From cursor c = (cursor ≤ c.start) × (1 ≤ c.len)

skips_from : (s : List ℕ) (cursor : ℕ) (cs : List Part) → TakenFrom s cursor cs → All (From cursor) (skips (length s) cursor cs)
skips_from s cursor [] t = rw (skips_nil (length s) cursor) (gap_all cursor (length s) (From cursor) (λ l. (omega arith, omega arith)))
skips_from s cursor (c ∷ cs) t =
    let end : ℕ = c.start + c.len in
    rw (skips_cons (length s) cursor c cs)
    (All-append (From cursor) (gap cursor c.start) (skips (length s) end cs)
    (gap_all cursor c.start (From cursor) (λ l. (omega arith, omega arith)))
    (All-map (λ x f. (omega (arith, f.0, t.0.from), f.1)) (skips (length s) end cs) (skips_from s end cs t.1)))

skips-apart : (s : List ℕ) (cursor : ℕ) (cs : List Part) → TakenFrom s cursor cs → Pairs Apart (skips (length s) cursor cs)
skips-apart s cursor [] t = rw (skips_nil (length s) cursor) (gap_pairs cursor (length s) Apart)
skips-apart s cursor (c ∷ cs) t =
    let end : ℕ = c.start + c.len in
    rw (skips_cons (length s) cursor c cs)
    (Pairs-append Apart (gap cursor c.start) (skips (length s) end cs) (gap_pairs cursor c.start Apart) (skips-apart s end cs t.1)
    (gap_all cursor c.start (λ x. All (Apart x) (skips (length s) end cs))
    (λ l. All-map (λ y f. omega (arith, f.0, (lies s c t.0.is_binary).some)) (skips (length s) end cs) (skips_from s end cs t.1))))

pub whole_sequence : (s : List ℕ) → WholeSequence s
unfolding taken skipped
whole_sequence s =
    let t = takes_from 65 s 0 in
    record {
      exactly = λ i. exact s 0 (takes 65 s 0) (omega arith) t i ∙ (let e : length s - 0 ≡ length s = omega arith in ap (λ n. has i (record { start = 0; len = n })) e);
      some = All-map (λ c f. f.1) (skips (length s) 0 (takes 65 s 0)) (skips_from s 0 (takes 65 s 0) t);
      rising = skips-apart s 0 (takes 65 s 0) t;
    }

-- ---- none is left

-- a byte of a gap lies between its ends
gap-has : (i from to : ℕ) → times i (gap from to) ≡ 1 → (from ≤ i) × (i < to)
gap-has i from to e =
    by_lt from to
    (λ l.
    let one : has i (span from to) ≡ 1 = omega (arith, e, times-gap i from to (omega arith)) in
    by_lt i from
    (λ a. absurd (omega (arith, one, has_low i (span from to) a)))
    (λ a. by_lt i to (λ b. (a, b)) (λ b. absurd (omega (arith, one, has_high i (span from to) a (omega arith))))))
    (λ l. absurd (omega (arith, e, ap (times i) (gap_no from to l), times_none i)))

-- not in a gap twice
gap_once : (i from to : ℕ) → times i (gap from to) ≤ 1
gap_once i from to =
    by_lt from to
    (λ l. omega (arith, times-gap i from to (omega arith), once (span from to)))
    (λ l. omega (arith, ap (times i) (gap_no from to l), times_none i))
  where
    once : (c : Part) → has i c ≤ 1
    once c =
        by_lt i c.start
        (λ a. omega (arith, has_low i c a))
        (λ a. by_lt i (c.start + c.len) (λ b. omega (arith, has_in i c a b)) (λ b. omega (arith, has_high i c a b)))

none-skipped : (n : ℕ) (s : List ℕ) (cursor : ℕ) → length (takes n s cursor) < n → (i : ℕ) → times i (skips (length s) cursor (takes n s cursor)) ≡ 1 → passes s i ≡ false
none-skipped zero s cursor few i e = absurd (omega arith)
none-skipped (suc n) s cursor few i e =
    by_lt (lowest s cursor) (length s)
    (λ l.
    let p : ℕ = lowest s cursor in
    let c : Part = part_at s p in
    let end : ℕ = p + size_of (drop p s) in
    let cs : List Part = takes n s end in
    let y : takes (suc n) s cursor ≡ c ∷ cs = takes_yes n s cursor l in
    let sk : times i (skips (length s) cursor (takes (suc n) s cursor)) ≡ times i (gap cursor p) + times i (skips (length s) end cs) =
    ap (λ x. times i (skips (length s) cursor x)) y ∙ ap (times i) (skips_cons (length s) cursor c cs) ∙ total-append (has i) (gap cursor p) (skips (length s) end cs) in
    by_lt 0 (times i (gap cursor p))
    (λ g. let b = gap-has i cursor p (omega (arith, gap_once i cursor p)) in lowest-before s cursor i b.0 b.1)
    (λ g. none-skipped n s end (omega (arith, ap length y)) i (omega (arith, e, sk))))
    (λ l.
    let b = gap-has i cursor (length s) (ap (times i) (sym (ap (skips (length s) cursor) (takes_no n s cursor l) ∙ skips_nil (length s) cursor)) ∙ e) in
    lowest-before s cursor i b.0 (omega (arith, b.1)))

pub lowest_each : (s : List ℕ) → LowestEach s
unfolding taken skipped
lowest_each s = record {
  each = takes_from 65 s 0;
  none_left = λ few i e z. clash (passes s i) (passes_yes s i z) (none-skipped 65 s 0 (omega arith) i e);
}
