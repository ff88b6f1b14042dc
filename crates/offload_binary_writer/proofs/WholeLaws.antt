-- The parts of a binary, written one behind another, are the binary. Assumes nothing.
use Prim.Native.Nat.{ℕ, zero, suc, ◌+◌, ◌*◌, ◌-◌, ◌<◌, ◌≤◌}
use native.Mathlib.Omega.{arith}
use mathlib.Core.Path.{◌≡◌, refl, sym, ap, ◌∙◌}
use mathlib.Core.Bool.{false}
use mathlib.Core.List.{List, [], ◌∷◌, ◌++◌, map, append_assoc}
use lib.ListN.{length, get_or, replicate, length-append, length-replicate, length-map}
use Rattle.std.specs.List.{All, sum_by}
use Rattle.std.proofs.lemmas.List.Sums.{sum_by-cons}
use Rattle.wire.specs.Bytes.{overwrite}
use Rattle.wire.proofs.OverwriteLaws.{overwrite_then}
use Rattle.offload_binary.specs.Binary.{magic, no_pair}
use Rattle.offload_binary.specs.Contents.{Contents, key_text, field_bytes, texts, string_bytes, offsets, up8, zeros, strings_start, strings_end, image_start, image_end, binary_size, head_fields, written}
use Rattle.offload_binary.specs.declared.StringPair.{StringPair}
use Rattle.offload_binary.proofs.WrittenLaws.{up8_le, length-offsets, length-texts}
use Rattle.offload_binary.specs.Writer.{bad_pair, bad_pairs, given}
use Rattle.offload_binary.proofs.CallLaws.{pair-fits, pair-good}
use Rattle.offload_binary_writer.specs.Code.{IsShort, pair_len, strings, laid, LayoutIs, word_bytes, head_words, image_bytes}
use Rattle.offload_binary.specs.declared.Tags.{Tags}
use Rattle.offload_binary_writer.specs.declared.Layout.{Layout}
use Rattle.offload_binary_writer.proofs.WriteLaws.{length_words, head_are}

pub up8_top : (n : ℕ) → up8 n ≤ n + 7
unfolding up8
up8_top n = omega arith

-- ---- strings that 16 is not given for

strings_length : (buf : List ℕ) (pairs : List StringPair) → ((i : ℕ) → i < length pairs → bad_pair buf (get_or pairs i no_pair) ≡ false) → length (string_bytes (strings buf pairs)) ≡ sum_by pair_len pairs
unfolding texts string_bytes key_text
strings_length buf [] h = refl
strings_length buf (p ∷ pairs) h =
    let f = pair-fits buf p (h 0 (omega arith)) in
    let k : length (key_text buf p).key ≡ p.key.len = f.key.long in
    let t : length (key_text buf p).text ≡ p.text.len = f.text.long in
    simp length-append (omega (arith, strings_length buf pairs (λ i k. h (suc i) (omega arith)), sum_by-cons pair_len p pairs))

short_at : (buf : List ℕ) (pairs : List StringPair) → ((i : ℕ) → i < length pairs → bad_pair buf (get_or pairs i no_pair) ≡ false) → (k : ℕ) (d : StringPair) → k < length pairs → IsShort (get_or pairs k d)
short_at buf [] h k d l = absurd (omega arith)
short_at buf (p ∷ pairs) h zero d l = let f = pair-fits buf p (h 0 (omega arith)) in (f.key.short, f.text.short)
short_at buf (p ∷ pairs) h (suc k) d l = short_at buf pairs (λ i m. h (suc i) (omega arith)) k d (omega arith)

module _ (buf : List ℕ) (pairs : List StringPair) (good : bad_pairs buf pairs ≡ false) where
  pub pairs_length : length (string_bytes (strings buf pairs)) ≡ sum_by pair_len pairs
  pairs_length = strings_length buf pairs (pair-good buf pairs good)

  pub pairs_short : All IsShort pairs
  pairs_short = short_at buf pairs (pair-good buf pairs good)

-- ---- the binary

regroup : (a b c d : List ℕ) → a ++ (b ++ (c ++ d)) ≡ ((a ++ b) ++ c) ++ d
regroup a b c d = simp append_assoc

module _ (tags : Tags) (image : List ℕ) (pairs : List StringPair) (buf : List ℕ) where
  abbrev g : Contents
  g = given tags image pairs buf

  abbrev n : ℕ
  n = length pairs

  abbrev xs : List (List ℕ)
  xs = strings buf pairs

  abbrev after_head : List ℕ
  after_head = field_bytes (offsets (strings_start g.strings) xs) ++ (string_bytes xs ++ (zeros (strings_end g.strings) (image_start g) ++ (image ++ zeros (image_end g) (binary_size g))))

  written_is : written g ≡ word_bytes (head_words tags (length g.strings) (image_start g) (length image) (binary_size g)) ++ after_head
  unfolding written given head_fields
  written_is = sym (append_assoc magic (field_bytes (head_fields g)) after_head) ∙ ap (λ h. h ++ after_head) (head_are tags (length g.strings) (image_start g) (length image) (binary_size g))

  module _ (good : bad_pairs buf pairs ≡ false) (at : Layout) (is : LayoutIs pairs (length image) at) where
    length-given : length g.strings ≡ n
    unfolding given
    length-given = length-map pairs (key_text buf)

    strings_start_lem : strings_start g.strings ≡ at.strings
    unfolding strings_start
    strings_start_lem = omega (arith, length-given, is.strings_is)

    strings_end_lem : strings_end g.strings ≡ at.end
    unfolding strings_end given
    strings_end_lem = omega (arith, strings_start_lem, pairs_length buf pairs good, is.end_is)

    image_start_lem : image_start g ≡ at.image
    unfolding image_start given
    image_start_lem = ap up8 strings_end_lem ∙ sym is.image_is

    image_end_lem : image_end g ≡ at.stop
    unfolding image_end given
    image_end_lem = ap (λ k. k + length image) image_start_lem ∙ sym is.stop_is

    pub size_is : binary_size g ≡ at.size
    unfolding binary_size
    size_is = ap up8 image_end_lem ∙ sym is.size_is

    -- what each part's place is
    pub record Ordered : Type 0 where
      pub strings_num : at.strings ≡ 72 + 16 * n
      pub end_num : at.end ≡ at.strings + length (string_bytes xs)
      pub end_image : at.end ≤ at.image
      pub image-near : at.image ≤ at.end + 7
      pub stop_num : at.stop ≡ at.image + length image
      pub stop-size : at.stop ≤ at.size
      pub size-near : at.size ≤ at.stop + 7

    pub ordered : Ordered
    ordered = record {
      strings_num = is.strings_is;
      end_num = omega (arith, is.end_is, pairs_length buf pairs good);
      end_image = omega (arith, is.image_is, up8_le at.end);
      image-near = omega (arith, is.image_is, up8_top at.end);
      stop_num = is.stop_is;
      stop-size = omega (arith, is.size_is, up8_le at.stop);
      size-near = omega (arith, is.size_is, up8_top at.stop);
    }

    abbrev W : List ℕ
    W = word_bytes (head_words tags n at.image (length image) at.size)

    abbrev P : List ℕ
    P = field_bytes (offsets at.strings xs)

    abbrev S : List ℕ
    S = string_bytes xs

    abbrev I : List ℕ
    I = image_bytes at image

    length_head : length W ≡ 72
    unfolding head_words
    length_head = length_words (head_words tags n at.image (length image) at.size)

    length-image : length I ≡ at.size - at.end
    unfolding image_bytes
    length-image = let o = ordered in simp (length-append, length-replicate) (omega arith)

    parts_are : written g ≡ ((W ++ P) ++ S) ++ I
    unfolding zeros image_bytes
    parts_are =
        let c = length-given in
        let s = strings_start_lem in
        let e = strings_end_lem in
        let a = image_start_lem in
        let z = image_end_lem in
        let t = size_is in
        written_is
        ∙ (λ i. word_bytes (head_words tags (c i) (a i) (length image) (t i)) ++ (field_bytes (offsets (s i) xs) ++ (string_bytes xs ++ (replicate (a i - e i) 0 ++ (image ++ replicate (t i - z i) 0)))))
        ∙ regroup W P S I

    -- the four writes
    pub whole : (d : List ℕ) → at.size ≤ length d → overwrite (laid at.strings xs (overwrite d 0 W)) at.end I ≡ overwrite d 0 (written g)
    whole d room =
        let o = ordered in
        let a₀ = length_head in
        let a₁ : length P ≡ 16 * n = length-offsets at.strings xs ∙ omega (arith, length-texts (map (key_text buf) pairs), length-map pairs (key_text buf)) in
        let a₂ = length-image in
        let n₁ : length (W ++ P) ≡ at.strings = length-append W P ∙ omega arith in
        let n₂ : length ((W ++ P) ++ S) ≡ at.end = length-append (W ++ P) S ∙ omega arith in
        ap (λ y. overwrite (overwrite y at.strings S) at.end I) (overwrite_then d 0 72 W P (omega arith) (omega arith))
        ∙ ap (λ y. overwrite y at.end I) (overwrite_then d 0 at.strings (W ++ P) S (omega arith) (omega arith))
        ∙ overwrite_then d 0 at.end ((W ++ P) ++ S) I (omega arith) (omega arith)
        ∙ ap (overwrite d 0) (sym parts_are)
