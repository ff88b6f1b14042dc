-- Laws of runs and parts. Assumes nothing.
use Prim.Native.Nat.{ℕ, zero, suc, ◌+◌, ◌-◌, ◌≤◌, ◌<◌}
use mathlib.Core.Path.{◌≡◌, refl, sym, ap, ◌∙◌, subst}
use mathlib.Core.Logic.{inl, inr}
use mathlib.Core.Bool.{Bool, true, false, not, ◌&&◌, cond}
use mathlib.Core.List.{List, [], ◌∷◌, ◌++◌, append-nil}
use native.Mathlib.Omega.{arith}
use lib.ListN.{length, get_or, take, drop, drop_of_length-le, length-take, length-drop, take-append-drop, get_or-eq_default}
use lib.Seq.{take-suc, take_all, drop-cons, drop-drop, get_or-drop, length-take-le, take-add}
use lib.Dec.{T, leb, ltb, eqb}
use borrow.Author.Tests.{eqb-true, eqb-false, eq-eqb, leb-true, le-leb, ltb-true, ltb-false, lt-ltb, le-ltb, not-false}
use Rattle.wire.specs.Lists.{every}
use Rattle.wire.specs.Bytes.{empty, bytes}
use Rattle.wire.specs.First.{first}
use Rattle.entry_id.specs.Meaning.{pieces_of, names_processor}
use Rattle.entry_id.specs.Canonical.{head_of}
use Rattle.entry_id.specs.Text.{split_on, other_than, not_colon}
use Rattle.wire.proofs.Bools.{and_both, and_t, of_true, cases}
use Rattle.wire.proofs.FirstLaws.{first_le, first-before, first_at}
use Rattle.entry_id.proofs.TextLaws.{every_append, split_last, split_skip}
use Rattle.wire.proofs.ByteLaws.{same_length}
use Rattle.entry_id.specs.Scan.{part, Run, ends_at, pieces_at}

-- ---- parts

pub part_none : {A : Type 0} (x : List A) (a : ℕ) → part x a a ≡ []
unfolding part
part_none x a = let e : a - a ≡ 0 = omega arith in rw e

pub part_more : {A : Type 0} (x : List A) (d : A) (a i : ℕ) → a ≤ i → i < length x → part x a (i + 1) ≡ part x a i ++ get_or x i d ∷ []
unfolding part
part_more x d a i h k =
    let e : (i + 1) - a ≡ suc (i - a) = omega arith in
    let f : a + (i - a) ≡ i = omega arith in
    rw (e, take-suc (drop a x) (i - a) d (omega (arith, length-drop a x)), get_or-drop, f)

pub part_length : {A : Type 0} (x : List A) (a e : ℕ) → a ≤ e → e ≤ length x → length (part x a e) ≡ e - a
unfolding part
part_length x a e h k = length-take-le (e - a) (drop a x) (omega (arith, length-drop a x))

-- what follows a, up to e and from e on
pub part-drop : {A : Type 0} (x : List A) (a e : ℕ) → a ≤ e → drop a x ≡ part x a e ++ drop e x
unfolding part
part-drop x a e h =
    let f : a + (e - a) ≡ e = omega arith in
    sym (take-append-drop (e - a) (drop a x)) ∙ ap (λ r. take (e - a) (drop a x) ++ r) (drop-drop (e - a) a x ∙ ap (λ n. drop n x) f)

pub part_split : {A : Type 0} (x : List A) (a b c : ℕ) → a ≤ b → b ≤ c → part x a c ≡ part x a b ++ part x b c
unfolding part
part_split x a b c h k =
    let e : c - a ≡ (b - a) + (c - b) = omega arith in
    let f : a + (b - a) ≡ b = omega arith in
    ap (λ n. take n (drop a x)) e ∙ take-add (b - a) (c - b) (drop a x) ∙ ap (λ l. take (b - a) (drop a x) ++ take (c - b) l) (drop-drop (b - a) a x ∙ ap (λ n. drop n x) f)

pub part_rest : {A : Type 0} (x : List A) (a : ℕ) → part x a (length x) ≡ drop a x
unfolding part
part_rest x a = take_all (length x - a) (drop a x) (omega (arith, length-drop a x))

pub part_start : {A : Type 0} (x : List A) (e : ℕ) → part x 0 e ≡ take e x
unfolding part
part_start x e = let f : e - 0 ≡ e = omega arith in rw f

-- ---- runs

module _ (p : ℕ → Bool) (x : List ℕ) (a : ℕ) where
  pub run_none : T (every p (part x a a))
  unfolding every
  run_none = rw (part_none x a) tt

  pub run_more : (i : ℕ) → a ≤ i → i < length x → T (every p (part x a i)) → p (get_or x i 0) ≡ true → T (every p (part x a (i + 1)))
  unfolding every
  run_more i h k t e =
      rw (part_more x 0 a i h k)
      (every_append p (part x a i) (get_or x i 0 ∷ []) t (and_t (p (get_or x i 0)) true (of_true (p (get_or x i 0)) e) tt))

-- a run that goes on
pub run_on : (p : ℕ → Bool) (x : List ℕ) (a e r : ℕ) → a ≤ e → T (every p (part x a e)) → Run p x e r → Run p x a r
run_on p x a e r h t s = record {
  low = omega (arith, s.low);
  high = s.high;
  passed = rw (part_split x a e r h s.low) (every_append p (part x a e) (part x e r) t s.passed);
  stop = s.stop;
}

-- up to the first c from `from` on, no byte is a c
module _ (x : List ℕ) (from c r : ℕ) (inside : from ≤ length x) (e : r ≡ first (length x) (λ i. leb from i && eqb (get_or x i 0) c)) where
  abbrev here : ℕ → Bool
  here i = leb from i && eqb (get_or x i 0) c

  high : r ≤ length x
  high = omega (arith, e, first_le (length x) here)

  found : r < length x → (leb from r ≡ true) × (eqb (get_or x r 0) c ≡ true)
  found h = and_both (leb from r) (eqb (get_or x r 0) c) (subst (λ k. here k ≡ true) (sym e) (first_at (length x) here (omega (arith, e))))

  not_yet : (i : ℕ) → from ≤ i → i < r → other_than c (get_or x i 0) ≡ true
  unfolding other_than
  not_yet i h k =
      let f : here i ≡ false = first-before (length x) here i (omega (arith, e)) in
      ap not (rw (le-leb from i h) at f)

  none_before : (k : ℕ) → from + k ≤ r → T (every (other_than c) (part x from (from + k)))
  none_before zero h = let z : from + 0 ≡ from = omega arith in rw z (run_none (other_than c) x from)
  none_before (suc k) h =
      let z : from + k + 1 ≡ from + suc k = omega arith in
      subst (λ n. T (every (other_than c) (part x from n))) z
      (run_more (other_than c) x from (from + k) (omega arith) (omega (arith, high)) (none_before k (omega arith)) (not_yet (from + k) (omega arith) (omega arith)))

  pub first_run : Run (other_than c) x from r
  unfolding other_than
  first_run =
      let low : from ≤ r = elim (cases (ltb r (length x))) [
        | inl t ↦ leb-true from r (found (ltb-true r (length x) t)).0
        | inr f ↦ omega (arith, inside, ltb-false r (length x) f)
      ] in
      let z : from + (r - from) ≡ r = omega arith in
      record {
        low = low;
        high = high;
        passed = subst (λ n. T (every (other_than c) (part x from n))) z (none_before (r - from) (omega arith));
        stop = λ h. ap not (found h).1;
      }

-- a run of bytes other than c, from a up to r, is the first piece of the text from a on
pub cut-run : (c : ℕ) (x : List ℕ) (a r : ℕ) → Run (other_than c) x a r → split_on c (drop a x) ≡ part x a r ∷ cond (ltb r (length x)) (split_on c (drop (suc r) x)) []
unfolding other_than
cut-run c x a r h =
    let d = part-drop x a r h.low in
    elim (cases (ltb r (length x))) [
      | inl e ↦
          let k = ltb-true r (length x) e in
          let b : get_or x r 0 ≡ c = eqb-true (get_or x r 0) c (not-false _ (h.stop k)) in
          ap (split_on c) (d ∙ ap (λ z. part x a r ++ z) (drop-cons x r 0 k ∙ ap (λ b. b ∷ drop (suc r) x) b))
          ∙ split_skip c (other_than c) other (part x a r) (drop (suc r) x) h.passed ∙ ap (λ b. part x a r ∷ cond b (split_on c (drop (suc r) x)) []) (sym e)
      | inr e ↦
          let k = ltb-false r (length x) e in
          ap (split_on c) (d ∙ ap (λ z. part x a r ++ z) (drop_of_length-le x k) ∙ append-nil (part x a r))
          ∙ split_last c (other_than c) other (part x a r) h.passed ∙ ap (λ b. part x a r ∷ cond b (split_on c (drop (suc r) x)) []) (sym e)
    ]
  where
    other : T (other_than c c) → ⊥
    other t = rw (eq-eqb c c refl) at t

-- ---- where the head ends

module _ (x : List ℕ) (i : ℕ) where
  pub goes_on : ends_at x i ≡ false → (i < length x) × (get_or x i 0 ≡ 58 → ⊥)
  unfolding ends_at
  goes_on e = elim (cases (ltb i (length x))) [
    | inl h ↦ (ltb-true i (length x) h, eqb-false (get_or x i 0) 58 (rw h at e))
    | inr h ↦ let z : ◌≡◌ {A = Bool} true false = rw h at e in absurd (subst T z tt)
  ]

  pub stop_here : ends_at x i ≡ true → i < length x → not_colon (get_or x i 0) ≡ false
  unfolding other_than ends_at
  stop_here e k = ap not (rw (lt-ltb i (length x) k) at e)

module _ (x : List ℕ) (a r : ℕ) (h : Run not_colon x a r) where
  pub head_stops : ends_at x r ≡ true
  unfolding ends_at other_than
  head_stops = elim (cases (ltb r (length x))) [
    | inl e ↦ rw e (not-false _ (h.stop (ltb-true r (length x) e)))
    | inr e ↦ rw e
  ]

  -- the text from a on starts with the piece up to r
  pub cut-piece : split_on 58 (drop a x) ≡ part x a r ∷ pieces_at x r
  unfolding pieces_at
  cut-piece = cut-run 58 x a r h

  pub head_part : head_of (drop a x) ≡ part x a r
  unfolding head_of
  head_part = ap (λ (l : List (List ℕ)). get_or l 0 []) cut-piece

  pub pieces_part : pieces_of (drop a x) ≡ pieces_at x r
  unfolding pieces_of
  pieces_part = ap (λ (l : List (List ℕ)). drop 1 l) cut-piece

-- ---- bytes

-- a byte that is not 0 stands inside
pub byte_inside : (x : List ℕ) (i b : ℕ) → get_or x i 0 ≡ suc b → i < length x
byte_inside x i b e = elim (cases (ltb i (length x))) [
  | inl h ↦ ltb-true i (length x) h
  | inr h ↦ let z = get_or-eq_default x 0 {n = i} (ltb-false i (length x) h) in absurd (omega arith)
]

-- the text up to r: up to a byte, that byte and what follows it
pub take_step : (x : List ℕ) (a r b : ℕ) → get_or x a 0 ≡ b → a < length x → suc a ≤ r → take r x ≡ take a x ++ b ∷ part x (suc a) r
unfolding part
take_step x a r b e k h =
    let n = r - suc a in
    let f : r ≡ a + suc n = omega arith in
    ap (λ m. take m x) f ∙ take-add a (suc n) x ∙ ap (λ l. take a x ++ take (suc n) l) (drop-cons x a 0 k) ∙ ap (λ y. take a x ++ y ∷ take n (drop (suc a) x)) e

pub some_of : (l : List ℕ) → 0 < length l → T (not (empty l))
unfolding empty
some_of [] z = absurd (omega arith)
some_of (y ∷ l) z = tt

pub short_proc : (f : List ℕ) → length f < 3 → names_processor f ≡ false
unfolding names_processor
short_proc f h =
    let l : length (take 3 f) < 3 = omega (arith, length-take 3 f) in
    rw (same_length (take 3 f) (bytes "gfx") (λ e. absurd (omega arith)), same_length (take 3 f) (bytes "sm_") (λ e. absurd (omega arith)))

-- a part, from its first byte
pub part_cons : (x : List ℕ) (a r b : ℕ) → get_or x a 0 ≡ b → a < length x → suc a ≤ r → part x a r ≡ b ∷ part x (suc a) r
unfolding part
part_cons x a r b e k h =
    let n = r - suc a in
    let f : r - a ≡ suc n = omega arith in
    ap (λ m. take m (drop a x)) f ∙ ap (λ l. take (suc n) l) (drop-cons x a 0 k) ∙ ap (λ y. y ∷ take n (drop (suc a) x)) e

-- ---- pieces

pub pieces_here : (x : List ℕ) (at : ℕ) → at < length x → pieces_at x at ≡ split_on 58 (drop (suc at) x)
unfolding pieces_at
pieces_here x at h = rw (lt-ltb at (length x) h)

pub pieces_none : (x : List ℕ) (at : ℕ) → length x ≤ at → pieces_at x at ≡ []
unfolding pieces_at
pieces_none x at h = rw (le-ltb at (length x) h)
