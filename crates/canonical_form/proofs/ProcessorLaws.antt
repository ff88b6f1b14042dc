-- What a processor's bytes are: a field, or a run behind which the head ends, with two ends. Assumes nothing.
use Rattle.std.proofs.Common.{◌≡◌, ℕ, suc, ◌+◌, ◌-◌, ◌<◌, ◌≤◌, Bool, true, false, not, ◌&&◌, ◌||◌, T, eqb, ltb, List, ◌++◌, length, get_or, drop, sym, refl, ap, ◌∙◌, arith, get_or-drop, drop-cons, get_or-take, ltb-false, ltb-true}
use Rattle.wire.specs.Lists.{every}
use Rattle.wire.proofs.Bools.{by_bool, clash, is_true, is_false}
use Rattle.entry_id.specs.Text.{not_colon}
use Rattle.entry_id.specs.Meaning.{processor_byte, processor_shaped}
use Rattle.entry_id.specs.Canonical.{head_of}
use Rattle.entry_id.specs.Scan.{part, Run, ends_at}
use Rattle.entry_id.proofs.ReadBack.{processor_plain, shaped-bytes}
use Rattle.entry_id.proofs.KindLaws.{head_start, head_more}
use Rattle.entry_id.proofs.RunLaws.{part_length, part-drop, goes_on, stop_here}
use Rattle.canonical_form.proofs.CutLaws.{every-not}
use Rattle.canonical_form.proofs.HeadLaws.{not_t}

-- ---- a run of a processor's bytes

-- a byte of a part
part_at : (x : List ℕ) (a r i : ℕ) → a + i < r → get_or (part x a r) i 0 ≡ get_or x (a + i) 0
unfolding part
part_at x a r i h = get_or-take (r - a) (drop a x) i 0 (omega arith) ∙ get_or-drop a x i 0

neither : (p q : Bool) → (not p && not q) ≡ not (p || q)
neither true q = refl
neither false q = refl

-- the head ends later
pub ends_later : (x : List ℕ) (e r : ℕ) → e ≤ r → ends_at x e ≡ false → ends_at x r ≡ true → e < r
ends_later x e r h s t =
    by_bool (ltb e r)
    (λ b. ltb-true e r b)
    (λ b. let q : e ≡ r = omega (arith, ltb-false e r b) in clash (ends_at x r) t (ap (ends_at x) (sym q) ∙ s))

-- the head ends behind it
pub head_run : (x : List ℕ) (a r : ℕ) → a ≤ r → r ≤ length x → T (every processor_byte (part x a r)) → ends_at x r ≡ true → Run not_colon x a r
head_run x a r l h t e = record { low = l; high = h; passed = processor_plain (part x a r) t; stop = stop_here x r e }

module _ (x : List ℕ) (a r : ℕ) (h : Run processor_byte x a r) where
  -- the head goes on behind it, with a byte that no processor has
  pub processor_stops : ends_at x r ≡ false → processor_shaped (head_of (drop a x)) ≡ false
  processor_stops e =
      let g = goes_on x r e in
      let d = part-drop x a r h.low ∙ ap (λ z. part x a r ++ z) (drop-cons x r 0 g.0) in
      let w = ap head_of d ∙ head_start (part x a r) (processor_plain (part x a r) h.passed) _ ∙ ap (λ z. part x a r ++ z) (head_more (get_or x r 0) (drop (suc r) x) g.1) in
      is_false (processor_shaped (head_of (drop a x)))
      (λ t. not_t (ap (every processor_byte) w ∙ every-not processor_byte (part x a r) (get_or x r 0) _ (h.stop g.0)) (shaped-bytes (head_of (drop a x)) t))

  pub processor_ends : a < r → processor_shaped (part x a r) ≡ not (eqb (get_or x a 0) 45 || eqb (get_or x (r - 1) 0) 45)
  unfolding processor_shaped
  processor_ends k =
      let l = part_length x a r h.low h.high in
      let i : a + 0 ≡ a = omega arith in
      let j : a + (length (part x a r) - 1) ≡ r - 1 = omega arith in
      let first = part_at x a r 0 (omega arith) ∙ ap (λ n. get_or x n 0) i in
      let last = part_at x a r (length (part x a r) - 1) (omega arith) ∙ ap (λ n. get_or x n 0) j in
      rw (is_true (every processor_byte (part x a r)) h.passed, first, last) (neither (eqb (get_or x a 0) 45) (eqb (get_or x (r - 1) 0) 45))
