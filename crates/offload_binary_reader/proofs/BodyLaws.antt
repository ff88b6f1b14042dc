-- 13 to 17 of a binary, as code tries them one after another. Assumes nothing.
use Prim.Native.Nat.{ℕ, ◌+◌, ◌-◌, ◌<◌, ◌≤◌}
use native.Mathlib.Omega.{arith}
use native.Mathlib.Nat.{zero-add}
use mathlib.Core.Path.{◌≡◌, sym, ap, ap₂, ◌∙◌}
use mathlib.Core.Bool.{true, false, ◌||◌, or-true}
use mathlib.Core.List.{List}
use lib.ListN.{length, get_or, take, drop, replicate, length-take, length-drop, length-append}
use lib.Seq.{get_or-take, get_or-drop, ext_get_or, length-take-le, take_all}
use lib.Dec.{ltb}
use borrow.Author.Tests.{ltb-false}
use Rattle.std.proofs.Common.{Ok, Err}
use Rattle.wire.proofs.TabLaws.{length_tab, get_d_tab}
use Rattle.wire.specs.Lists.{tab}
use Rattle.wire.specs.Word.{word}
use Rattle.wire.specs.Bytes.{same}
use Rattle.wire.specs.First.{any_below}
use Rattle.wire.specs.Stop.{◌⨾◌, stop_if, stop_when, earlier}
use Rattle.wire.specs.declared.Reason.{Reason}
use Rattle.wire.specs.declared.Reason.TheVariants as reasons
use Rattle.wire.specs.declared.Refusal.{Refusal}
use Rattle.wire.proofs.Bools.{or_neither}
use Rattle.wire.proofs.FirstLaws.{any_same, none_any}
use Rattle.wire.proofs.StopLaws.{earlier-same}
use Rattle.offload_binary.specs.Lists.{slots}
use Rattle.offload_binary.specs.Binary.{bytes_at, run, size_of, entry_at, own, bad_head, bad_span, binary_stop, binary, binary_at, entry_of, key_at, text_at, string_at, pair, key, bad_kinds, bad_table, bad_string, bad_pair, bad_strings, bad_image, body_stop, no_pair, hands_back, answer_by, key_in, equal_keys}
use Rattle.offload_binary.specs.Results.{answer_of}
use Rattle.offload_binary_reader.specs.Code.{body_answer}
use Rattle.offload_binary.specs.declared.Part.{Part}
use Rattle.offload_binary.specs.declared.StringPair.{StringPair}
use Rattle.offload_binary.specs.declared.Entry.{Entry}
use Rattle.offload_binary.specs.declared.Answer.{Answer}
use Rattle.offload_binary.proofs.BinaryLaws.{span_sized}
use Rattle.offload_binary.proofs.ListLaws.{take-slots}
use Rattle.offload_binary_reader.proofs.ReadLaws.{string_fits}

-- ---- 16: o is a binary's own bytes, at `from`

module _ (s : List ℕ) (from : ℕ) (o : List ℕ) (cut : o ≡ take (length o) (drop from s)) (inside : from + length o ≤ length s) where
  byte_at : (i : ℕ) → i < length o → get_or o i 0 ≡ get_or s (from + i) 0
  byte_at i h = ap (λ x. get_or x i 0) cut ∙ get_or-take (length o) (drop from s) i 0 h ∙ get_or-drop from s i 0

  -- a part of the binary, in all the bytes
  part_in_lem : (at n : ℕ) → at + n ≤ length o → take n (drop (from + at) s) ≡ take n (drop at o)
  part_in_lem at n h =
      ext_get_or 0 (take n (drop (from + at) s)) (take n (drop at o))
      (simp (length-take, length-drop) (omega arith))
      (λ i l.
      let k : i < n = omega (arith, length-take n (drop (from + at) s)) in
      let z : from + at + i ≡ from + (at + i) = omega arith in
      get_or-take n (drop (from + at) s) i 0 k ∙ get_or-drop (from + at) s i 0 ∙ ap (λ x. get_or s x 0) z
      ∙ sym (get_or-take n (drop at o) i 0 k ∙ get_or-drop at o i 0 ∙ byte_at (at + i) (omega arith)))

  module _ (table count : ℕ) where
    pub strings_table : bad_table (length o) table count ≡ true → bad_strings o table count ≡ true
    unfolding bad_strings
    strings_table e = rw e

    pub strings_pairs : any_below count (bad_pair o table) ≡ true → bad_strings o table count ≡ true
    unfolding bad_strings
    strings_pairs e = rw (e, or-true)

    -- the keys of the pairs that were read are the binary's
    module _ (good : any_below count (bad_pair o table) ≡ false) where
      abbrev read : List StringPair
      read = tab count (pair from o table)

      key_inside : (i : ℕ) → i < count → key_at o table i + run (drop (key_at o table i) o) ≤ length o
      unfolding bad_pair
      key_inside i h =
          let bad = or_neither (bad_string o (key_at o table i) || bad_string o (text_at o table i)) _ (none_any count (bad_pair o table) good i h) in
          let f = string_fits o (key_at o table i) (or_neither _ (bad_string o (text_at o table i)) bad.0).0 in
          omega (arith, f.ends, length-drop (key_at o table i) o)

      key-same : (i : ℕ) → i < count → key_in s read i ≡ key o table i
      unfolding key_in key bytes_at pair string_at
      key-same i h =
          ap (λ p. bytes_at s p.key) (get_d_tab count (pair from o table) i no_pair h)
          ∙ part_in_lem (key_at o table i) (run (drop (key_at o table i) o)) (key_inside i h)
          ∙ ap (λ k. take (run (drop (key_at o table i) o)) (drop k o)) (sym (zero-add (key_at o table i)))

      pub pairs_long : (pairs : List StringPair) → pairs ≡ slots 32 no_pair read → count ≤ length pairs
      unfolding slots
      pairs_long pairs is = omega (arith, ap length is, length-append read (replicate (32 - length read) no_pair), length_tab count (pair from o table))

      keys_is : equal_keys s read ≡ any_below count (earlier same (key o table))
      unfolding equal_keys
      keys_is = ap (λ n. any_below n (earlier same (key_in s read))) (length_tab count (pair from o table)) ∙ any_same count _ _ (earlier-same same count (key_in s read) (key o table) key-same)

      pub strings_keys : bad_table (length o) table count ≡ false → (pairs : List StringPair) → pairs ≡ slots 32 no_pair read → equal_keys s (take count pairs) ≡ bad_strings o table count
      unfolding bad_strings
      strings_keys fits pairs is =
          ap (λ l. equal_keys s (take count l)) is ∙ ap (equal_keys s) (take-slots 32 no_pair read count (length_tab count (pair from o table))) ∙ keys_is
          ∙ rw (fits, good)

-- ---- 15 to 17: e is the entry that was read

module _ (from : ℕ) (o : List ℕ) (at : ℕ) (e : Entry) (is : e ≡ entry_of o at) where
  body_is : (k : ℕ) (a : Answer) → (body_stop o e).number ≡ k → a ≡ answer_by k from (hands_back from o e) → a ≡ body_answer from o at
  unfolding body_answer
  body_is k a n q = q ∙ ap (λ j. answer_by j from (hands_back from o e)) (sym n) ∙ ap (λ x. answer_by (body_stop o x).number from (hands_back from o x)) is

  -- a refusal by a reason, at the binary's first byte
  abbrev Refuses : Reason → Type 0
  Refuses k = (r : Refusal) → r ≡ record { reason = k; place = from } → answer_of (Err r) ≡ body_answer from o at

  stop-kinds : bad_kinds e.image_kind e.offload_kind ≡ true → (body_stop o e).number ≡ 15
  unfolding body_stop ◌⨾◌ stop_if stop_when
  stop-kinds k = rw k

  pub body_kinds : bad_kinds e.image_kind e.offload_kind ≡ true → Refuses reasons.Kind
  body_kinds k r q = body_is 15 _ (stop-kinds k) (ap (λ x. answer_of (Err x)) q)

  module _ (k : bad_kinds e.image_kind e.offload_kind ≡ false) where
    stop_strings : bad_strings o e.table e.count ≡ true → (body_stop o e).number ≡ 16
    unfolding body_stop ◌⨾◌ stop_if stop_when
    stop_strings b = rw (k, b)

    pub body_strings : bad_strings o e.table e.count ≡ true → Refuses reasons.Strings
    body_strings b r q = body_is 16 _ (stop_strings b) (ap (λ x. answer_of (Err x)) q)

    module _ (b : bad_strings o e.table e.count ≡ false) where
      stop-image : bad_image (length o) e.image ≡ true → (body_stop o e).number ≡ 17
      unfolding body_stop ◌⨾◌ stop_if stop_when
      stop-image i = rw (k, b, i)

      pub body_image : bad_image (length o) e.image ≡ true → Refuses reasons.Image
      body_image i r q = body_is 17 _ (stop-image i) (ap (λ x. answer_of (Err x)) q)

      stop-none : bad_image (length o) e.image ≡ false → (body_stop o e).number ≡ 0
      unfolding body_stop ◌⨾◌ stop_if stop_when
      stop-none i = rw (k, b, i)

      pub body_good : bad_image (length o) e.image ≡ false → (pairs : List StringPair) → pairs ≡ slots 32 no_pair (tab e.count (pair from o e.table))
          → answer_of (Ok (record {
            start = from;
            size = length o;
            image_kind = e.image_kind;
            offload_kind = e.offload_kind;
            flags = e.flags;
            image = record { start = from + e.image.start; len = e.image.len };
            count = e.count;
            pairs = pairs;
          })) ≡ body_answer from o at
      unfolding hands_back
      body_good i pairs p =
          body_is 0 _ (stop-none i)
          (λ j. answer_of (Ok (record {
            start = from;
            size = length o;
            image_kind = e.image_kind;
            offload_kind = e.offload_kind;
            flags = e.flags;
            image = record { start = from + e.image.start; len = e.image.len };
            count = e.count;
            pairs = p j;
          })))

pub image-fits : (size : ℕ) (p : Part) → bad_image size p ≡ false → p.start + p.len ≤ size
unfolding bad_image
image-fits size p f = ltb-false _ _ (or_neither (ltb p.start 32) _ f).1

-- ---- 13 to 17 of the binary at a position

-- b is the bytes from the position on
module _ (s : List ℕ) (position : ℕ) (b : List ℕ) (cut : b ≡ bytes_at s (record { start = position; len = length s })) where
  b_is : b ≡ drop position s
  unfolding bytes_at
  b_is = cut ∙ take_all (length s) (drop position s) (omega (arith, length-drop position s))

  binary_is : (k : ℕ) (a : Answer) → (binary_stop b).number ≡ k → a ≡ answer_by k position (binary position b) → a ≡ binary_at s position
  unfolding binary_at
  binary_is k a e q = q ∙ ap (λ j. answer_by j position (binary position b)) (sym e) ∙ ap (λ x. answer_by (binary_stop x).number position (binary position x)) b_is

  abbrev Stops : Reason → Type 0
  Stops k = (r : Refusal) → r ≡ record { reason = k; place = position } → answer_of (Err r) ≡ binary_at s position

  stop_head : bad_head b ≡ true → (binary_stop b).number ≡ 13
  unfolding binary_stop ◌⨾◌ stop_if stop_when
  stop_head h = rw h

  pub at_head : bad_head b ≡ true → Stops reasons.Head
  at_head h r q = binary_is 13 _ (stop_head h) (ap (λ x. answer_of (Err x)) q)

  module _ (h : bad_head b ≡ false) where
    stop-span : bad_span b ≡ true → (binary_stop b).number ≡ 14
    unfolding binary_stop ◌⨾◌ stop_if stop_when
    stop-span p = rw (h, p)

    pub at_span : bad_span b ≡ true → Stops reasons.Span
    at_span p r q = binary_is 14 _ (stop-span p) (ap (λ x. answer_of (Err x)) q)

    module _ (p : bad_span b ≡ false) (size entry : ℕ) (z : size ≡ word 8 b 8) (y : entry ≡ word 8 b 16) where
      abbrev own_bytes : List ℕ
      own_bytes = take size b

      pub length_own : length own_bytes ≡ size
      unfolding size_of
      length_own = let f = span_sized b p in length-take-le size b (omega (arith, f.inside))

      pub inside : (own_bytes ≡ take (length own_bytes) (drop position s)) × (position + length own_bytes ≤ length s) × (entry + 40 ≤ length own_bytes)
      unfolding size_of entry_at
      inside =
          let f = span_sized b p in
          let n = length_own in (
            ap (take size) b_is ∙ ap (λ k. take k (drop position s)) (sym n),
            omega (arith, f.some, f.inside, ap length b_is, length-drop position s),
            omega (arith, f.within),
          )

      own_is : own b ≡ own_bytes
      unfolding own size_of
      own_is = ap (λ k. take k b) (sym z)

      entry_is : entry_at b ≡ entry
      unfolding entry_at
      entry_is = sym y

      stop_body : binary_stop b ≡ body_stop own_bytes (entry_of own_bytes entry)
      unfolding binary_stop ◌⨾◌ stop_if stop_when
      stop_body = rw (h, p) (ap₂ (λ x e. body_stop x (entry_of x e)) own_is entry_is)

      pub at_body : body_answer position own_bytes entry ≡ binary_at s position
      unfolding body_answer binary
      at_body =
          binary_is (body_stop own_bytes (entry_of own_bytes entry)).number _ (ap (λ t. t.number) stop_body)
          (ap (answer_by (body_stop own_bytes (entry_of own_bytes entry)).number position) (sym (ap₂ (λ x e. hands_back position x (entry_of x e)) own_is entry_is)))
