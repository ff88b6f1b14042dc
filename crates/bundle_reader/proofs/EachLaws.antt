-- The pick for each of several device names. Assumes nothing.
use Prim.Native.Nat.{ℕ, suc, ◌+◌, ◌-◌, ◌*◌, ◌^◌, ◌%◌, ◌<◌, ◌≤◌}
use native.Mathlib.Nat.{one-mul}
use native.Mathlib.Numerals.{add-one}
use native.Mathlib.Omega.{arith}
use mathlib.Core.Path.{◌≡◌, refl, sym, ap, ap₂, ◌∙◌}
use mathlib.Core.Bool.{false, ◌&&◌, cond}
use mathlib.Core.List.{List, [], ◌∷◌, ◌++◌, append_assoc}
use borrow.Author.Tests.{le-leb, lt-leb, le-ltb, lt-ltb, ne_eqb}
use Rattle.std.specs.Prelude.{Result, Ok, Err}
use lib.Bits.{bit_or}
use lib.Count.{ones}
use lib.Dec.{eqb, lit<}
use lib.ListN.{length, get_or, take, drop, set, length-drop}
use lib.Pow.{shl_exact}
use lib.Seq.{drop-cons, set_at, take_all, length-take-le}
use Rattle.wire.specs.Bits.{bits_below}
use Rattle.wire.specs.First.{any_below}
use Rattle.wire.specs.Lists.{tab}
use Rattle.wire.specs.Stop.{Stop, go, stop, stop_if, stop_when, unrefused, over, output}
use Rattle.wire.specs.Refusals.{number_of, stop_by}
use Rattle.wire.specs.declared.Refusal.{Refusal}
use Rattle.wire.proofs.BitLaws.{bits_same, bits_none, bits_one, bits_or, ones_bits}
use Rattle.wire.proofs.FirstLaws.{any_none, any_same}
use Rattle.wire.proofs.StopLaws.{stop_if-go, over_tab}
use Rattle.wire.proofs.TabLaws.{length_tab, tab_next, tab_same}
use Rattle.entry_id.specs.IdRules.{IdRules}
use Rattle.bundle.specs.Check.{bundle_stop}
use Rattle.bundle.specs.Each.{start_of, length_of, part_of, slot_of, took, pick_at, taken, no_picks, each_stop, pick_each, slots_after}
use Rattle.bundle.specs.Results.{picked_of, picked_each_of}
use Rattle.bundle.specs.declared.Image.{Image}
use Rattle.bundle.proofs.EachLaws.{refused_by_lem, each-kept}
use Rattle.bundle_reader.specs.Slots.{takes}
use Rattle.bundle_reader.proofs.RefusalLaws.{some_number, number_suc, refuses, refuses_at, passes, any_more}

-- ---- a part of a buffer

module _ (buffer part : List ℕ) where
  pub part-outside : length buffer < start_of part + length_of part → [] ≡ part_of buffer part
  unfolding part_of
  part-outside h = sym (ap (λ t. cond t (take (length_of part) (drop (start_of part) buffer)) []) (lt-leb _ _ h))

  -- what follows the start
  abbrev pub rest : List ℕ
  rest = take (length buffer - start_of part) (drop (start_of part) buffer)

  rest_is : rest ≡ drop (start_of part) buffer
  rest_is = take_all (length buffer - start_of part) (drop (start_of part) buffer) (omega (arith, length-drop (start_of part) buffer))

  pub rest_length : length rest ≡ length buffer - start_of part
  rest_length = ap length rest_is ∙ length-drop (start_of part) buffer

  pub part_length : length_of part ≤ length rest → length_of part ≡ length (take (length_of part) rest)
  part_length h = sym (length-take-le (length_of part) rest h)

  pub part_inside : start_of part ≤ length buffer → length_of part ≤ length rest → take (length_of part) rest ≡ part_of buffer part
  unfolding part_of
  part_inside s h = rw (rest_is, le-leb (start_of part + length_of part) (length buffer) (omega (arith, rest_length)))

-- ---- the entry that a pick takes

pub bit-taken : (i : ℕ) → i < 64 → (1 * 2 ^ i) % 2 ^ 64 ≡ bits_below 64 (eqb i)
bit-taken i h = shl_exact {a = 1} 1 i 64 (lit< tt) (omega arith) ∙ one-mul (2 ^ i) ∙ sym (bits_one 64 i h)

pub takes_is : (r : Result Image Refusal) (i : ℕ) → takes r i ≡ took (picked_of r) i
unfolding took
takes_is (Ok image) i = refl
takes_is (Err r) i = sym (ap (λ b. b && eqb 0 i) (ne_eqb (number_of r.reason) 0 (λ z. omega (arith, some_number r.reason, z))))

-- ---- the first k names

module _ {A : Type 0} (f : ℕ → A) (l : List A) where
  pub over_none : l ≡ over (tab 0 f) l
  unfolding over tab
  over_none = refl

  pub over_more : (k : ℕ) (z : List A) (x : A) → k < length l → z ≡ over (tab k f) l → x ≡ f k → set z k x ≡ over (tab (k + 1) f) l
  over_more k z x h e q =
      ap₂ (λ y v. set y k v) (e ∙ over_tab k f l) q
      ∙ ap (λ d. set (tab k f ++ d) k (f k)) (drop-cons l k x h)
      ∙ set_at (tab k f) (get_or l k x) (drop (suc k) l) (f k) k (length_tab k f)
      ∙ sym (over_tab (k + 1) f l ∙ ap₂ ◌++◌ (tab_next k f) (ap (λ n. drop n l) (add-one k)) ∙ append_assoc (tab k f) (f k ∷ []) (drop (suc k) l))

-- the word of the entries that the first k picks take
module _ (f : ℕ → Result Image Refusal) where
  abbrev pub word_after : ℕ → ℕ
  word_after k = bits_below 64 (λ i. any_below k (λ j. takes (f j) i))

  pub word_none : 0 ≡ word_after 0
  word_none = sym (bits_same 64 _ (λ i. false) (λ i l. any_none 0 _ (λ j h. absurd (omega arith))) ∙ bits_none 64)

  pub word_more : (k w b : ℕ) → w ≡ word_after k → b ≡ bits_below 64 (takes (f k)) → bit_or w b ≡ word_after (k + 1)
  word_more k w b e q =
      ap₂ bit_or e q
      ∙ bits_or 64 _ _
      ∙ bits_same 64 _ _ (λ i l. sym (any_more k (λ j. takes (f j) i)))

-- ---- the call

module _ (R : IdRules) (s buffer : List ℕ) (names slots : List (List ℕ)) where
  abbrev stopped : Stop
  stopped = each_stop R s buffer names (length slots)

  -- what refuses it
  module _ (r : Refusal) (e : stop_by r ≡ stopped) where
    pub each-refused : no_picks (number_of r.reason) r.place ≡ pick_each R s buffer names (length slots)
    each-refused =
        let (k, q) = number_suc r.reason in
        sym (refused_by_lem R s buffer names slots (stop_by r) k (sym e) q)

    pub each-kept_by : slots ≡ slots_after R s buffer names slots
    unfolding pick_each
    each-kept_by =
        let (k, q) = number_suc r.reason in
        sym (each-kept R s buffer names slots k (ap (λ t. t.number) (sym e) ∙ q))

  pub each_by : (r : Refusal) → stop_by r ≡ bundle_stop R s → stop_by r ≡ stopped
  unfolding each_stop
  each_by r e = refuses r _ _ e

  module _ (e : go ≡ bundle_stop R s) where
    pub each_many : 16 < length names → stop 23 0 ≡ stopped
    unfolding each_stop stop_if stop_when
    each_many h = passes _ _ _ e (refuses_at 22 0 _ _ (rw (lt-ltb 16 (length names) h)))

    module _ (few : length names ≤ 16) where
      pub each_room : length slots < length names → stop 12 0 ≡ stopped
      unfolding each_stop stop_if stop_when
      each_room h = passes _ _ _ e (passes _ _ _ (rw (le-ltb 16 (length names) few)) (rw (lt-ltb (length slots) (length names) h)))

      -- a slot is filled for each name
      module _ (room : length names ≤ length slots) (f : ℕ → Result Image Refusal) (each : (k : ℕ) → picked_of (f k) ≡ pick_at R s buffer names k) where
        goes : go ≡ stopped
        unfolding each_stop
        goes = passes _ _ _ e (passes _ _ _ (sym (stop_if-go 23 _ (le-ltb 16 (length names) few))) (sym (stop_if-go 12 _ (le-ltb (length slots) (length names) room))))

        word_taken : word_after f (length names) ≡ bits_below 64 (taken R s buffer names)
        unfolding taken
        word_taken = bits_same 64 _ _ (λ i l. any_same (length names) _ _ (λ k h. takes_is (f k) i ∙ ap (λ p. took p i) (each k)))

        pub each_filled : (w : ℕ) → w ≡ word_after f (length names) → picked_each_of (Ok (record { slots = length names; word = w; taken = ones w })) ≡ pick_each R s buffer names (length slots)
        unfolding pick_each unrefused
        each_filled w q = rw (sym goes, q ∙ word_taken, ones_bits 64 (taken R s buffer names))

        pub each_after : (after : List (List ℕ)) → after ≡ over (tab (length names) (λ k. slot_of (picked_of (f k)))) slots → after ≡ slots_after R s buffer names slots
        unfolding slots_after output
        each_after after q = q ∙ ap (λ l. over l slots) (tab_same (length names) _ _ (λ k h. ap slot_of (each k))) ∙ rw (sym goes)
