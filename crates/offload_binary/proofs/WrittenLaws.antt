-- What stands where in a written binary, whatever follows it. Assumes nothing.
use Prim.Native.Nat.{ℕ, zero, suc, ◌+◌, ◌*◌, ◌^◌, ◌-◌, ◌<◌, ◌≤◌}
use native.Mathlib.Omega.{arith}
use mathlib.Core.Path.{◌≡◌, refl, sym, ap, ◌∙◌}
use mathlib.Core.Bool.{false}
use mathlib.Core.List.{List, [], ◌∷◌, ◌++◌, append_assoc}
use lib.ListN.{length, get_or, take, drop, length-append, length-replicate, get_or-append}
use lib.Seq.{drop_at, take_at, get_or_at, split_at, drop-append-add}
use lib.Dec.{ltb, eqb}
use borrow.Author.Tests.{ltb-false}
use Rattle.wire.specs.Limit.{limit}
use Rattle.wire.specs.Word.{bytes_of, word}
use Rattle.wire.specs.Bytes.{same, empty}
use Rattle.wire.specs.First.{any_below}
use Rattle.wire.specs.Stop.{earlier}
use Rattle.wire.proofs.Bools.{or_neither}
use Rattle.wire.proofs.WordLaws.{length_bytes_of, word_at}
use Rattle.wire.proofs.FirstLaws.{first_is, none_any}
use Rattle.offload_binary.specs.Binary.{magic, run, ended, size_of, entry_at, entry_of, bad_kinds}
use Rattle.offload_binary.specs.Contents.{KeyText, no_key_text, Contents, Field, ◌∶◌, field_bytes, texts, string_bytes, offsets, up8, zeros, strings_start, strings_end, image_start, image_end, binary_size, head_fields, written, key_of, bad_text, bad_key_texts, too_big}
use Rattle.offload_binary.specs.Theorems.{Writable}
use Rattle.offload_binary.specs.declared.Entry.{Entry}

-- ---- fields

abbrev no_field : Field
no_field = 0 ∶ 0

unfoldable pub widths : List Field → ℕ
widths [] = 0
widths (f ∷ fs) = f.width + widths fs

pub length_fields : (fs : List Field) → length (field_bytes fs) ≡ widths fs
unfolding field_bytes widths
length_fields [] = refl
length_fields (f ∷ fs) = simp (length-append, length_bytes_of, length_fields fs)

field_read : (p : List ℕ) (fs : List Field) (rest : List ℕ) (i at : ℕ) → i < length fs → at ≡ length p + widths (take i fs)
    → (get_or fs i no_field).value < 256 ^ (get_or fs i no_field).width
    → word (get_or fs i no_field).width (p ++ (field_bytes fs ++ rest)) at ≡ (get_or fs i no_field).value
unfolding field_bytes widths
field_read p [] rest i at h e fits = absurd (omega arith)
field_read p (f ∷ fs) rest zero at h e fits =
    ap (λ s. word f.width s at) (simp append_assoc)
    ∙ word_at f.width p f.value (field_bytes fs ++ rest) at (omega arith) fits
field_read p (f ∷ fs) rest (suc i) at h e fits =
    ap (λ s. word (get_or fs i no_field).width s at) (simp append_assoc)
    ∙ field_read (p ++ bytes_of f.width f.value) fs rest i at (omega arith) (simp (length-append, length_bytes_of) (omega arith)) fits

-- ---- keys and texts, one after another

pub length-texts : (ts : List KeyText) → length (texts ts) ≡ 2 * length ts
unfolding texts
length-texts [] = refl
length-texts (t ∷ ts) = omega (arith, length-texts ts)

pub texts-key : (ts : List KeyText) (i j : ℕ) → j ≡ 2 * i → get_or (texts ts) j [] ≡ key_of ts i
unfolding texts key_of
texts-key [] i j e = refl
texts-key (t ∷ ts) zero j e = let z : j ≡ 0 = omega arith in ap (λ k. get_or (t.key ∷ t.text ∷ texts ts) k []) z
texts-key (t ∷ ts) (suc i) j e = let z : j ≡ suc (suc (2 * i)) = omega arith in ap (λ k. get_or (t.key ∷ t.text ∷ texts ts) k []) z ∙ texts-key ts i (2 * i) refl

pub texts-text : (ts : List KeyText) (i j : ℕ) → j ≡ 2 * i + 1 → get_or (texts ts) j [] ≡ (get_or ts i no_key_text).text
unfolding texts
texts-text [] i j e = refl
texts-text (t ∷ ts) zero j e = let z : j ≡ 1 = omega arith in ap (λ k. get_or (t.key ∷ t.text ∷ texts ts) k []) z
texts-text (t ∷ ts) (suc i) j e = let z : j ≡ suc (suc (2 * i + 1)) = omega arith in ap (λ k. get_or (t.key ∷ t.text ∷ texts ts) k []) z ∙ texts-text ts i (2 * i + 1) refl

pub length-offsets : (from : ℕ) (xs : List (List ℕ)) → length (field_bytes (offsets from xs)) ≡ 8 * length xs
unfolding field_bytes offsets
length-offsets from [] = refl
length-offsets from (x ∷ xs) = simp (length-append, length_bytes_of) (omega (arith, length-offsets (from + length x + 1) xs))

pub length_strings : (x : List ℕ) (xs : List (List ℕ)) → length (string_bytes (x ∷ xs)) ≡ length x + 1 + length (string_bytes xs)
unfolding string_bytes
length_strings x xs = simp length-append (omega arith)

-- offset j says where string j starts
pub offset_read : (rest p : List ℕ) (from : ℕ) (xs : List (List ℕ)) (j at : ℕ) → j < length xs → at ≡ length p + 8 * j → from + length (string_bytes xs) < 256 ^ 8
    → word 8 (p ++ (field_bytes (offsets from xs) ++ rest)) at ≡ from + length (string_bytes (take j xs))
unfolding field_bytes offsets
offset_read rest p from [] j at h e fits = absurd (omega arith)
offset_read rest p from (x ∷ xs) zero at h e fits =
    let z : length (string_bytes []) ≡ 0 = unfold string_bytes in refl in
    ap (λ s. word 8 s at) (simp append_assoc) ∙ word_at 8 p from (field_bytes (offsets (from + length x + 1) xs) ++ rest) at (omega arith) (omega arith) ∙ omega arith
offset_read rest p from (x ∷ xs) (suc j) at h e fits =
    ap (λ s. word 8 s at) (simp append_assoc)
    ∙ offset_read rest (p ++ bytes_of 8 from) (from + length x + 1) xs j at (omega arith) (simp (length-append, length_bytes_of) (omega arith)) (omega (arith, length_strings x xs))
    ∙ omega (arith, length_strings x (take j xs))

pub strings_append : (a b : List (List ℕ)) → string_bytes (a ++ b) ≡ string_bytes a ++ string_bytes b
unfolding string_bytes
strings_append [] b = refl
strings_append (x ∷ a) b = rw (strings_append a b) (simp append_assoc)

-- what follows the start of string j
pub string_drop : (q : List ℕ) (xs : List (List ℕ)) (r : List ℕ) (j : ℕ) → j < length xs
    → drop (length q + length (string_bytes (take j xs))) (q ++ (string_bytes xs ++ r)) ≡ get_or xs j [] ++ (0 ∷ string_bytes (drop (suc j) xs) ++ r)
string_drop q xs r j h =
    let cut : string_bytes xs ≡ string_bytes (take j xs) ++ (get_or xs j [] ++ (0 ∷ string_bytes (drop (suc j) xs))) =
    ap string_bytes (split_at xs j [] h) ∙ strings_append (take j xs) (get_or xs j [] ∷ drop (suc j) xs) ∙ unfold string_bytes in refl in
    drop-append-add q (string_bytes xs ++ r) (length (string_bytes (take j xs)))
    ∙ ap (λ x. drop (length (string_bytes (take j xs))) (x ++ r)) cut
    ∙ ap (drop (length (string_bytes (take j xs)))) (append_assoc (string_bytes (take j xs)) _ r)
    ∙ drop_at (string_bytes (take j xs)) _ _ refl
    ∙ simp append_assoc

-- a string ends at its zero
pub run_ends : (t r : List ℕ) → ended t ≡ false → run (t ++ (0 ∷ r)) ≡ length t
unfolding run ended any_below
run_ends t r e =
    first_is (length (t ++ (0 ∷ r))) (λ i. eqb (get_or (t ++ (0 ∷ r)) i 0) 0) (length t) (simp length-append (omega arith))
    (ap (λ x. eqb x 0) (get_or_at t 0 r 0 (length t) refl))
    (λ i h. ap (λ x. eqb x 0) (get_or-append t (0 ∷ r) 0 i h) ∙ none_any (length t) (λ j. eqb (get_or t j 0) 0) e i h)

-- ---- the whole

pub up8_le : (n : ℕ) → n ≤ up8 n
unfolding up8
up8_le n = omega arith

pub length-zeros : (from to : ℕ) → length (zeros from to) ≡ to - from
unfolding zeros
length-zeros from to = length-replicate (to - from) 0

length_head : (g : Contents) → length (field_bytes (head_fields g)) ≡ 68
unfolding head_fields widths
length_head g = length_fields (head_fields g)

pub length-written : (g : Contents) → length (written g) ≡ binary_size g
unfolding written strings_end strings_start image_end binary_size image_start
length-written g =
    let xs : List (List ℕ) = texts g.strings in
    let n : ℕ = 72 + 16 * length g.strings + length (string_bytes xs) in
    simp (length-append, length-zeros, length_head, length-offsets)
    (omega (arith, length-texts g.strings, up8_le n, up8_le (up8 n + length g.image)))

-- what a binary to be written has
pub record Good (g : Contents) : Type 0 where
  pub image_kind_lem : g.image_kind ≤ 5
  pub offload_kind_lem : g.offload_kind ≤ 3
  pub flags : g.flags < 256 ^ 4
  pub few : length g.strings ≤ 32
  pub short : (j : ℕ) → j < length (texts g.strings) → length (get_or (texts g.strings) j []) ≤ 256
  pub clean : (j : ℕ) → j < length (texts g.strings) → ended (get_or (texts g.strings) j []) ≡ false
  pub some : (i : ℕ) → i < length g.strings → empty (key_of g.strings i) ≡ false
  pub distinct : (i : ℕ) → i < length g.strings → earlier same (key_of g.strings) i ≡ false
  pub fits : binary_size g ≤ limit

pub good : (g : Contents) → Writable g → Good g
unfolding bad_kinds bad_key_texts bad_text too_big
good g w =
    let ts : List KeyText = g.strings in
    let k = or_neither _ _ w.kinds in
    let a = or_neither _ _ w.strings in
    let b = or_neither _ _ a.0 in
    let c = or_neither _ _ b.0 in
    let text = none_any (length (texts ts)) _ c.1 in
    record {
      image_kind_lem = ltb-false _ _ k.0;
      offload_kind_lem = ltb-false _ _ k.1;
      flags = w.flags;
      few = ltb-false _ _ c.0;
      short = λ j h. ltb-false _ _ (or_neither _ (ended (get_or (texts ts) j [])) (text j h)).0;
      clean = λ j h. (or_neither (ltb 256 (length (get_or (texts ts) j []))) _ (text j h)).1;
      some = none_any (length ts) _ b.1;
      distinct = none_any (length ts) _ a.1;
      fits = ltb-false _ _ w.fits;
    }

regroup : (a b c d : List ℕ) → a ++ (b ++ (c ++ d)) ≡ (a ++ (b ++ c)) ++ d
regroup a b c d = simp append_assoc

-- a written binary, and what follows it
module _ (g : Contents) (r : List ℕ) where
  abbrev xs : List (List ℕ)
  xs = texts g.strings

  abbrev tail₁ : List ℕ
  tail₁ = zeros (image_end g) (binary_size g) ++ r

  abbrev tail₂ : List ℕ
  tail₂ = zeros (strings_end g.strings) (image_start g) ++ (g.image ++ tail₁)

  abbrev tail₃ : List ℕ
  tail₃ = field_bytes (offsets (strings_start g.strings) xs) ++ (string_bytes xs ++ tail₂)

  abbrev pub body : List ℕ
  body = magic ++ (field_bytes (head_fields g) ++ tail₃)

  pub written_body : written g ++ r ≡ body
  unfolding written
  written_body = simp append_assoc

  pub image_end_lem : image_end g ≤ binary_size g
  unfolding binary_size
  image_end_lem = up8_le (image_end g)

  pub strings_end_lem : strings_end g.strings ≤ image_start g
  unfolding image_start
  strings_end_lem = up8_le (strings_end g.strings)

  pub end_eq : image_end g ≡ image_start g + length g.image
  unfolding image_end
  end_eq = refl

  pub start_eq : strings_start g.strings ≡ 72 + 16 * length g.strings
  unfolding strings_start
  start_eq = refl

  pub strings_eq : strings_end g.strings ≡ strings_start g.strings + length (string_bytes xs)
  unfolding strings_end
  strings_eq = refl

  module _ (ok : Good g) where
    abbrev front : List ℕ
    front = magic ++ field_bytes (head_fields g)

    length_front : length front ≡ 72
    length_front = simp length-append (omega (arith, length_head g))

    -- header and entry: field i is read at its place
    pub version_read : word 4 body 4 ≡ 1
    unfolding head_fields widths
    version_read = field_read magic (head_fields g) tail₃ 0 4 (omega arith) refl (omega arith)

    pub size_read : size_of body ≡ binary_size g
    unfolding head_fields widths size_of
    size_read = field_read magic (head_fields g) tail₃ 1 8 (omega arith) refl (omega (arith, ok.fits))

    pub entry_at_read : entry_at body ≡ 32
    unfolding head_fields widths entry_at
    entry_at_read = field_read magic (head_fields g) tail₃ 2 16 (omega arith) refl (omega arith)

    pub entry_size_read : word 8 body 24 ≡ 40
    unfolding head_fields widths
    entry_size_read = field_read magic (head_fields g) tail₃ 3 24 (omega arith) refl (omega arith)

    abbrev pub entry : Entry
    entry = record {
      image_kind = g.image_kind;
      offload_kind = g.offload_kind;
      flags = g.flags;
      table = 72;
      count = length g.strings;
      image = record { start = image_start g; len = length g.image };
    }

    pub entry_read : entry_of body (entry_at body) ≡ entry
    unfolding entry_of head_fields widths
    entry_read =
        let p₀ : word 2 body 32 ≡ g.image_kind = field_read magic (head_fields g) tail₃ 4 32 (omega arith) refl (omega (arith, ok.image_kind_lem)) in
        let p₁ : word 2 body 34 ≡ g.offload_kind = field_read magic (head_fields g) tail₃ 5 34 (omega arith) refl (omega (arith, ok.offload_kind_lem)) in
        let p₂ : word 4 body 36 ≡ g.flags = field_read magic (head_fields g) tail₃ 6 36 (omega arith) refl ok.flags in
        let p₃ : word 8 body 40 ≡ 72 = field_read magic (head_fields g) tail₃ 7 40 (omega arith) refl (omega arith) in
        let p₄ : word 8 body 48 ≡ length g.strings = field_read magic (head_fields g) tail₃ 8 48 (omega arith) refl (omega (arith, ok.few)) in
        let p₅ : word 8 body 56 ≡ image_start g = field_read magic (head_fields g) tail₃ 9 56 (omega arith) refl (omega (arith, ok.fits, image_end_lem, end_eq)) in
        let p₆ : word 8 body 64 ≡ length g.image = field_read magic (head_fields g) tail₃ 10 64 (omega arith) refl (omega (arith, ok.fits, image_end_lem, end_eq)) in
        rw entry_at_read (λ i. record { image_kind = p₀ i; offload_kind = p₁ i; flags = p₂ i; table = p₃ i; count = p₄ i; image = record { start = p₅ i; len = p₆ i } })

    -- strings
    strings_fit : strings_start g.strings + length (string_bytes xs) < 256 ^ 8
    strings_fit = omega (arith, ok.fits, image_end_lem, end_eq, strings_end_lem, strings_eq)

    cut-offsets : body ≡ front ++ (field_bytes (offsets (strings_start g.strings) xs) ++ (string_bytes xs ++ tail₂))
    cut-offsets = simp append_assoc

    abbrev before_strings : List ℕ
    before_strings = front ++ field_bytes (offsets (strings_start g.strings) xs)

    cut_strings : body ≡ before_strings ++ (string_bytes xs ++ tail₂)
    cut_strings = simp append_assoc

    length_before : length before_strings ≡ strings_start g.strings
    length_before = length-append front _ ∙ omega (arith, length_front, length-offsets (strings_start g.strings) xs, length-texts g.strings, start_eq)

    -- the offset of string j, and what stands there
    abbrev pub offset : ℕ → ℕ
    offset j = word 8 body (72 + 8 * j)

    pub offset_is : (j : ℕ) → j < length xs → offset j ≡ strings_start g.strings + length (string_bytes (take j xs))
    offset_is j h =
        ap (λ s. word 8 s (72 + 8 * j)) cut-offsets
        ∙ offset_read (string_bytes xs ++ tail₂) front (strings_start g.strings) xs j (72 + 8 * j) h (omega (arith, length_front)) strings_fit

    pub string_there : (j : ℕ) → j < length xs → drop (offset j) body ≡ get_or xs j [] ++ (0 ∷ string_bytes (drop (suc j) xs) ++ tail₂)
    string_there j h =
        ap (λ k. drop k body) (offset_is j h ∙ ap (λ k. k + length (string_bytes (take j xs))) (sym length_before))
        ∙ ap (drop (length before_strings + length (string_bytes (take j xs)))) cut_strings
        ∙ string_drop before_strings xs tail₂ j h

    abbrev before_image : List ℕ
    before_image = before_strings ++ (string_bytes xs ++ zeros (strings_end g.strings) (image_start g))

    cut-image : body ≡ before_image ++ (g.image ++ tail₁)
    cut-image = cut_strings ∙ regroup before_strings (string_bytes xs) (zeros (strings_end g.strings) (image_start g)) (g.image ++ tail₁)

    length-image : length before_image ≡ image_start g
    length-image =
        length-append before_strings (string_bytes xs ++ zeros (strings_end g.strings) (image_start g))
        ∙ omega (arith, length_before, length-append (string_bytes xs) (zeros (strings_end g.strings) (image_start g)), length-zeros (strings_end g.strings) (image_start g), strings_end_lem, strings_eq)

    pub image-there : take (length g.image) (drop (image_start g) body) ≡ g.image
    image-there =
        ap (λ s. take (length g.image) (drop (image_start g) s)) cut-image
        ∙ ap (take (length g.image)) (drop_at before_image (g.image ++ tail₁) (image_start g) length-image)
        ∙ take_at g.image tail₁ (length g.image) refl
