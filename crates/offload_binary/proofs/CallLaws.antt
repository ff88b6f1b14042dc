-- The writer's refusals, as code tries them one after another. Assumes nothing.
use Prim.Native.Nat.{ℕ, suc, ◌+◌, ◌<◌, ◌≤◌}
use native.Mathlib.Omega.{arith}
use mathlib.Core.Path.{◌≡◌, sym, ap, ◌∙◌}
use mathlib.Core.Bool.{true, false, ◌||◌, cond}
use mathlib.Core.List.{List, [], ◌++◌}
use lib.ListN.{length, get_or, take, drop, length-take, length-drop}
use lib.Dec.{ltb, eqb}
use borrow.Author.Tests.{lt-ltb, le-ltb, ltb-false, eqb-false}
use Rattle.wire.specs.Limit.{limit}
use Rattle.wire.specs.Bytes.{same, overwrite}
use Rattle.wire.specs.First.{any_below}
use Rattle.wire.specs.Stop.{◌⨾◌, stop_if, stop_when, earlier}
use Rattle.wire.proofs.Bools.{by_bool, or_neither}
use Rattle.wire.proofs.FirstLaws.{none_any}
use Rattle.wire.proofs.OverwriteLaws.{overwrite_in}
use Rattle.offload_binary.specs.Binary.{bytes_at, ended, bad_kinds, no_pair, key_in}
use Rattle.offload_binary.specs.Contents.{Contents, image_start, image_end, binary_size, written, too_big}
use Rattle.offload_binary.specs.declared.Part.{Part}
use Rattle.offload_binary.specs.declared.StringPair.{StringPair}
use Rattle.offload_binary.proofs.WrittenLaws.{up8_le, length-written}
use Rattle.offload_binary.specs.Writer.{bad_part, bad_pair, bad_pairs, given, write_stop, output_by, write}
use Rattle.offload_binary.specs.declared.Tags.{Tags}
use Rattle.offload_binary.specs.declared.Written.{Written}

-- ---- 16, and what holds where it is not given

-- a part is as long as it says, and has no zero byte
pub record PartFits (buf : List ℕ) (p : Part) : Type 0 where
  pub long : length (bytes_at buf p) ≡ p.len
  pub short : p.len ≤ 256
  pub clean : ended (bytes_at buf p) ≡ false

part-fits : (buf : List ℕ) (p : Part) → bad_part buf p ≡ false → PartFits buf p
unfolding bad_part bytes_at
part-fits buf p e =
    let a = or_neither (ltb (length buf) (p.start + p.len) || ltb 256 p.len) (ended (take p.len (drop p.start buf))) e in
    let b = or_neither (ltb (length buf) (p.start + p.len)) (ltb 256 p.len) a.0 in
    let inside : p.start + p.len ≤ length buf = ltb-false _ _ b.0 in
    record { long = simp (length-take, length-drop) (omega arith); short = ltb-false _ _ b.1; clean = a.1 }

pub record PairFits (buf : List ℕ) (p : StringPair) : Type 0 where
  pub key : PartFits buf p.key
  pub text : PartFits buf p.text
  pub some : p.key.len ≡ 0 → ⊥

pub pair-fits : (buf : List ℕ) (p : StringPair) → bad_pair buf p ≡ false → PairFits buf p
unfolding bad_pair
pair-fits buf p e =
    let a = or_neither (bad_part buf p.key || bad_part buf p.text) (eqb p.key.len 0) e in
    let b = or_neither (bad_part buf p.key) (bad_part buf p.text) a.0 in
    record { key = part-fits buf p.key b.0; text = part-fits buf p.text b.1; some = eqb-false _ _ a.1 }

module _ (buf : List ℕ) (pairs : List StringPair) (good : bad_pairs buf pairs ≡ false) where
  facts : ((ltb 32 (length pairs) || any_below (length pairs) (λ i. bad_pair buf (get_or pairs i no_pair))) ≡ false) × (any_below (length pairs) (earlier same (key_in buf pairs)) ≡ false)
  unfolding bad_pairs
  facts = or_neither _ _ good

  pub few_pairs : length pairs ≤ 32
  few_pairs = ltb-false _ _ (or_neither (ltb 32 (length pairs)) _ facts.0).0

  pub pair-good : (i : ℕ) → i < length pairs → bad_pair buf (get_or pairs i no_pair) ≡ false
  pair-good = none_any (length pairs) (λ i. bad_pair buf (get_or pairs i no_pair)) (or_neither (ltb 32 (length pairs)) _ facts.0).1

  pub keys_differ : (i : ℕ) → i < length pairs → earlier same (key_in buf pairs) i ≡ false
  keys_differ = none_any (length pairs) (earlier same (key_in buf pairs)) facts.1

-- ---- the call

module _ (tags : Tags) (image : List ℕ) (l : List StringPair) (buf out : List ℕ) where
  abbrev g : Contents
  g = given tags image l buf

  -- what comes back, by the number
  abbrev Back : Written → List ℕ → Type 0
  Back r o = (r ≡ (write tags image l buf out).answer) × (o ≡ (write tags image l buf out).out)

  pub back : (k : ℕ) → (write_stop tags image l buf (length out)).number ≡ k → write tags image l buf out ≡ output_by k (written g) out
  unfolding write
  back k e = ap (λ j. output_by j (written g) out) e

  refuse : (k : ℕ) → (write_stop tags image l buf (length out)).number ≡ suc k → (r : Written) → r ≡ record { number = suc k; place = 0; len = 0 } → Back r out
  refuse k e r q = let w = sym (back (suc k) e) in (q ∙ ap (λ o. o.answer) w, ap (λ o. o.out) w)

  stop-kinds : bad_kinds tags.image_kind tags.offload_kind ≡ true → (write_stop tags image l buf (length out)).number ≡ 15
  unfolding write_stop ◌⨾◌ stop_if stop_when
  stop-kinds k = rw k

  pub call_kinds : bad_kinds tags.image_kind tags.offload_kind ≡ true → (r : Written) → r ≡ record { number = 15; place = 0; len = 0 } → Back r out
  call_kinds k = refuse 14 (stop-kinds k)

  module _ (k : bad_kinds tags.image_kind tags.offload_kind ≡ false) where
    stop_pairs : bad_pairs buf l ≡ true → (write_stop tags image l buf (length out)).number ≡ 16
    unfolding write_stop ◌⨾◌ stop_if stop_when
    stop_pairs p = rw (k, p)

    pub call_pairs : bad_pairs buf l ≡ true → (r : Written) → r ≡ record { number = 16; place = 0; len = 0 } → Back r out
    call_pairs p = refuse 15 (stop_pairs p)

    module _ (p : bad_pairs buf l ≡ false) where
      stop_big : limit < binary_size g → (write_stop tags image l buf (length out)).number ≡ 11
      unfolding write_stop ◌⨾◌ stop_if stop_when too_big
      stop_big b = rw (k, p, lt-ltb limit (binary_size g) b)

      pub call_big : limit < binary_size g → (r : Written) → r ≡ record { number = 11; place = 0; len = 0 } → Back r out
      call_big b = refuse 10 (stop_big b)

      -- an image above the limit makes a binary above it
      pub image_big : limit < length image → limit < binary_size g
      unfolding binary_size image_end given
      image_big h = omega (arith, up8_le (image_start g + length image))

      module _ (fits : binary_size g ≤ limit) where
        stop_room : length out < binary_size g → (write_stop tags image l buf (length out)).number ≡ 12
        unfolding write_stop ◌⨾◌ stop_if stop_when too_big
        stop_room h = rw (k, p, le-ltb limit (binary_size g) fits, lt-ltb _ _ h)

        pub call_room : length out < binary_size g → (r : Written) → r ≡ record { number = 12; place = 0; len = 0 } → Back r out
        call_room h = refuse 11 (stop_room h)

        stop-none : binary_size g ≤ length out → (write_stop tags image l buf (length out)).number ≡ 0
        unfolding write_stop ◌⨾◌ stop_if stop_when too_big
        stop-none h = rw (k, p, le-ltb limit (binary_size g) fits, le-ltb _ _ h)

        pub call_good : binary_size g ≤ length out → (size : ℕ) → size ≡ binary_size g → (o : List ℕ) → o ≡ overwrite out 0 (written g)
            → Back (record { number = 0; place = 0; len = size }) o
        call_good h size s o q =
            let w = sym (back 0 (stop-none h)) in
            let e : size ≡ length (written g) = s ∙ sym (length-written g) in
            let n = length-written g in
            let z : 0 + length (written g) ≡ length (written g) = omega arith in (
              ap (λ m. record { number = 0; place = 0; len = m }) e ∙ ap (λ o. o.answer) w,
              q ∙ overwrite_in out 0 (written g) (omega arith) ∙ ap (λ m. written g ++ drop m out) z ∙ ap (λ o. o.out) w,
            )

  -- of a list of more than 32 pairs nothing else is asked
  many_bad : 32 < length l → bad_pairs buf l ≡ true
  unfolding bad_pairs
  many_bad h = rw (lt-ltb _ _ h)

  pub call_many : 32 < length l → write tags image l buf out ≡ output_by (cond (bad_kinds tags.image_kind tags.offload_kind) 15 16) [] out
  call_many h =
      by_bool (bad_kinds tags.image_kind tags.offload_kind)
      (λ t. back 15 (stop-kinds t) ∙ rw t)
      (λ f. back 16 (stop_pairs f (many_bad h)) ∙ rw f)
