-- Strings, pairs and the table, as code reads them. Assumes nothing.
use Prim.Native.Nat.{ℕ, ◌+◌, ◌*◌, ◌<◌, ◌≤◌}
use native.Mathlib.Omega.{arith}
use mathlib.Core.Path.{◌≡◌, refl, sym, ap, ◌∙◌}
use mathlib.Core.Bool.{Bool, true, false, ◌&&◌, ◌||◌, or-true}
use mathlib.Core.List.{List}
use lib.ListN.{length, get_or, take, drop, length-take}
use lib.Seq.{get_or-take}
use lib.Dec.{ltb, eqb}
use borrow.Author.Tests.{ltb-true, ltb-false, lt-ltb, le-ltb, eq-eqb, ne_eqb}
use Rattle.std.proofs.Common.{Option, None, Some}
use Rattle.std.specs.List.{position}
use Rattle.std.proofs.lemmas.List.Quantifiers.{position-Some}
use Rattle.std.proofs.lemmas.List.Sums.{position_or_len_is}
use Rattle.wire.specs.First.{first}
use Rattle.wire.specs.Word.{word}
use Rattle.wire.proofs.Bools.{by_bool, or_neither, neither_or, not_no, yes_not}
use Rattle.wire.proofs.FirstLaws.{first_is, first_at, first-before}
use Rattle.offload_binary.specs.Binary.{bytes_at, run, ended, key_at, text_at, string_at, pair, bad_table, bad_string, bad_pair}
use Rattle.offload_binary.specs.declared.Part.{Part}
use Rattle.offload_binary_reader.specs.Code.{unless}

-- ---- what was read, or none

pub none_is : {A : Type 0} (x : A) (b : Bool) → b ≡ true → None ≡ unless b x
none_is x b e = rw e

pub some_is : {A : Type 0} (x : A) (b : Bool) → b ≡ false → (y : A) → y ≡ x → Some y ≡ unless b x
some_is x b e y q = rw e (ap (λ z. Some z) q)

pub was_none : {A : Type 0} (x : A) (b : Bool) (r : Option A) → r ≡ unless b x → r ≡ None → b ≡ true
was_none x true r e n = refl
was_none x false r e n = cc

pub record WasRead {A : Type 0} (x : A) (b : Bool) (y : A) : Type 0 where
  pub good : b ≡ false
  pub is : y ≡ x

pub was_some : {A : Type 0} (x : A) (b : Bool) (r : Option A) (y : A) → r ≡ unless b x → r ≡ Some y → WasRead x b y
was_some x true r y e s = record { good = cc; is = cc }
was_some x false r y e s = record { good = refl; is = cc }

-- ---- strings: the search for a zero byte among the first 257 decides 16

abbrev zero : ℕ → Bool
zero b = eqb b 0

module _ (o : List ℕ) (at : ℕ) where
  abbrev l : List ℕ
  l = drop at o

  pub record StringFits : Type 0 where
    pub low : 32 ≤ at
    pub ends : run l < length l
    pub short : run l ≤ 256

  pub string_fits : bad_string o at ≡ false → StringFits
  unfolding bad_string ended
  string_fits e =
      let a = or_neither _ _ e in
      let b = or_neither _ _ a.0 in
      record { low = ltb-false _ _ b.0; ends = ltb-true _ _ (not_no _ b.1); short = ltb-false _ _ a.1 }

  pub fits_string : StringFits → bad_string o at ≡ false
  unfolding bad_string ended
  fits_string f = neither_or _ _ (neither_or _ _ (le-ltb _ _ f.low) (yes_not _ (lt-ltb _ _ f.ends))) (le-ltb _ _ f.short)

  pub no_string : (StringFits → ⊥) → bad_string o at ≡ true
  no_string h = by_bool (bad_string o at) (λ t. t) (λ f. absurd (h (string_fits f)))

  module _ (t : List ℕ) (cut : t ≡ bytes_at o (record { start = at; len = 257 })) (r : Option ℕ) (found : r ≡ position zero t) where
    t_is : t ≡ take 257 l
    unfolding bytes_at
    t_is = cut

    at_t : (i : ℕ) → i < 257 → zero (get_or t i 0) ≡ zero (get_or l i 0)
    at_t i h = ap (λ x. zero (get_or x i 0)) t_is ∙ ap zero (get_or-take 257 l i 0 h)

    length_t : length t ≡ length (take 257 l)
    length_t = ap length t_is

    pub zero_none : r ≡ None → StringFits → ⊥
    unfolding run
    zero_none n f =
        let k = first (length l) (λ i. zero (get_or l i 0)) in
        let m = length-take 257 l in
        let e = position_or_len_is zero t k 0 (omega (arith, f.ends, f.short, length_t))
        (λ i h. at_t i (omega (arith, f.short)) ∙ first-before (length l) (λ j. zero (get_or l j 0)) i h)
        (λ _. at_t k (omega (arith, f.short)) ∙ first_at (length l) (λ j. zero (get_or l j 0)) f.ends) in
        let s : position zero t ≡ Some k = rw (e, lt-ltb k (length t) (omega (arith, f.ends, f.short, length_t))) in
        cc

    pub zero_some : (n : ℕ) → r ≡ Some n → 32 ≤ at → StringFits × (run l ≡ n)
    unfolding run
    zero_some n s low =
        let p = position-Some zero t n 0 (sym found ∙ s) in
        let m = length-take 257 l in
        let k : n < 257 = omega (arith, p.0, length_t) in
        let e = first_is (length l) (λ j. zero (get_or l j 0)) n (omega (arith, p.0, length_t)) (sym (at_t n k) ∙ p.1) (λ i h. sym (at_t i (omega arith)) ∙ p.2 i h) in
        (record { low = low; ends = omega (arith, e, p.0, length_t); short = omega (arith, e) }, e)

-- ---- pairs: k and t are the offsets that were read

module _ (from : ℕ) (o : List ℕ) (table i k t : ℕ) (ke : k ≡ word 8 o (table + 16 * i)) (te : t ≡ word 8 o (table + 16 * i + 8)) where
  key_offset : k ≡ key_at o table i
  unfolding key_at
  key_offset = ke

  text_offset : t ≡ text_at o table i
  unfolding text_at
  text_offset = te

  bad_is : bad_pair o table i ≡ (bad_string o k || bad_string o t || eqb (run (drop k o)) 0)
  unfolding bad_pair
  bad_is = rw (key_offset, text_offset)

  pub pair_key : bad_string o k ≡ true → bad_pair o table i ≡ true
  pair_key e = rw (bad_is, e)

  pub pair_text : bad_string o t ≡ true → bad_pair o table i ≡ true
  pair_text e = rw (bad_is, e, or-true)

  pub pair_empty : (key : Part) → key ≡ string_at from o k → key.len ≡ 0 → bad_pair o table i ≡ true
  unfolding string_at
  pair_empty key e z = bad_is ∙ rw (eq-eqb (run (drop k o)) 0 (sym (ap (λ p. p.len) e) ∙ z)) (or-true (bad_string o k || bad_string o t))

  pub pair_some : bad_string o k ≡ false → bad_string o t ≡ false → (key text : Part) → key ≡ string_at from o k → text ≡ string_at from o t → (key.len ≡ 0 → ⊥)
      → Some (record { key = key; text = text }) ≡ unless (bad_pair o table i) (pair from o table i)
  unfolding string_at pair
  pair_some kb tb key text ks ts some =
      some_is _ (bad_pair o table i) (bad_is ∙ neither_or _ _ (neither_or _ _ kb tb) (ne_eqb _ _ (λ z. some (ap (λ p. p.len) ks ∙ z)))) _
      (λ j. record { key = (ks ∙ ap (string_at from o) key_offset) j; text = (ts ∙ ap (string_at from o) text_offset) j })

-- ---- the table

pub record TableFits (size table count : ℕ) : Type 0 where
  pub few : count ≤ 32
  pub within : 0 < count → table + 16 * count ≤ size

pub table_fits : (size table count : ℕ) → bad_table size table count ≡ false → TableFits size table count
unfolding bad_table
table_fits size table count f =
    let a = or_neither (ltb 32 count) _ f in
    record {
      few = ltb-false _ _ a.0;
      within = λ h. ltb-false _ _ (or_neither (ltb table 32) _ (sym (ap (λ x. x && (ltb table 32 || ltb size (table + 16 * count))) (lt-ltb 0 count h)) ∙ a.1)).1;
    }
