-- What the writer's parts leave, one behind another. Assumes nothing.
use Prim.Native.Nat.{ℕ, suc, ◌+◌, ◌*◌, ◌/◌, ◌%◌, ◌<◌, ◌≤◌}
use native.Mathlib.Numerals.{add-one}
use native.Mathlib.Omega.{arith}
use mathlib.Core.Path.{◌≡◌, refl, sym, ap, ◌∙◌}
use mathlib.Core.List.{List, [], ◌∷◌, ◌++◌, map}
use lib.ListN.{length, get_or, take, drop, length-append, length-take, length-drop, length-map}
use lib.Seq.{drop-cons}
use Rattle.wire.specs.Word.{bytes_of}
use Rattle.wire.specs.Bytes.{overwrite}
use Rattle.wire.proofs.WordLaws.{length_bytes_of}
use Rattle.wire.proofs.OverwriteLaws.{overwrite_nil, overwrite_then, overwrite-apart, length-overwrite}
use Rattle.offload_binary.specs.Binary.{magic, bytes_at, no_pair}
use Rattle.offload_binary.specs.Contents.{key_text, texts, ◌∶◌, field_bytes, string_bytes, offsets}
use Rattle.offload_binary.proofs.WrittenLaws.{length-offsets, length-texts}
use Rattle.offload_binary.specs.declared.StringPair.{StringPair}
use Rattle.offload_binary_writer.specs.Code.{strings, laid, word_bytes, tags_word, head_words}
use Rattle.offload_binary.specs.declared.Tags.{Tags}
use Rattle.offload_binary.proofs.TextLaws.{strings_more, offsets_more, length_more, pair_more, strings_within}

-- ---- header and entry

pub length_words : (ws : List ℕ) → length (word_bytes ws) ≡ 8 * length ws
unfolding word_bytes
length_words [] = refl
length_words (w ∷ ws) = length-append (bytes_of 8 w) (word_bytes ws) ∙ omega (arith, length_bytes_of 8 w, length_words ws)

-- a turn: the word at i, and those behind it, are the words from i on
pub words_turn : (d ws : List ℕ) (i : ℕ) → i < length ws → 8 * length ws ≤ length d
    → overwrite (overwrite d (8 * i) (bytes_of 8 (get_or ws i 0))) (8 * (i + 1)) (word_bytes (drop (i + 1) ws)) ≡ overwrite d (8 * i) (word_bytes (drop i ws))
unfolding word_bytes
words_turn d ws i h room =
    let w : List ℕ = bytes_of 8 (get_or ws i 0) in
    overwrite_then d (8 * i) (8 * (i + 1)) w (word_bytes (drop (i + 1) ws)) (omega (arith, length_bytes_of 8 (get_or ws i 0))) (omega (arith, length_words (drop (i + 1) ws), length-drop (i + 1) ws))
    ∙ ap (λ k. overwrite d (8 * i) (w ++ word_bytes (drop k ws))) (add-one i)
    ∙ ap (λ l. overwrite d (8 * i) (word_bytes l)) (sym (drop-cons ws i 0 h))

digits : (n x y b : ℕ) → x < 256 → y < 256 → bytes_of (suc (suc n)) (x + 256 * (y + 256 * b)) ≡ x ∷ y ∷ bytes_of n b
unfolding bytes_of
digits n x y b hx hy =
    let q : (x + 256 * (y + 256 * b)) / 256 ≡ y + 256 * b = omega arith in
    let p : (x + 256 * (y + 256 * b)) % 256 ≡ x = omega arith in
    let s : (y + 256 * b) % 256 ≡ y = omega arith in
    let r : (y + 256 * b) / 256 ≡ b = omega arith in
    (λ i. p i ∷ q i % 256 ∷ bytes_of n (q i / 256)) ∙ (λ i. x ∷ s i ∷ bytes_of n (r i))

pack : (n a b : ℕ) → bytes_of (suc (suc n)) (a % 65536 + 65536 * b) ≡ bytes_of 2 a ++ bytes_of n b
unfolding bytes_of
pack n a b =
    let d : a % 65536 + 65536 * b ≡ a % 256 + 256 * (a / 256 % 256 + 256 * b) = omega arith in
    ap (bytes_of (suc (suc n))) d ∙ digits n (a % 256) (a / 256 % 256) b (omega arith) (omega arith)

tags_are : (tags : Tags) → bytes_of 8 (tags_word tags) ≡ bytes_of 2 tags.image_kind ++ (bytes_of 2 tags.offload_kind ++ bytes_of 4 tags.flags)
unfolding tags_word
tags_are tags =
    pack 6 tags.image_kind (tags.offload_kind % 65536 + 65536 * tags.flags)
    ∙ ap (λ l. bytes_of 2 tags.image_kind ++ l) (pack 4 tags.offload_kind tags.flags)

-- the definition's first bytes, by words
pub head_are : (tags : Tags) (count image len size : ℕ)
    → magic ++ field_bytes (4 ∶ 1 ∷ 8 ∶ size ∷ 8 ∶ 32 ∷ 8 ∶ 40 ∷ 2 ∶ tags.image_kind ∷ 2 ∶ tags.offload_kind ∷ 4 ∶ tags.flags ∷ 8 ∶ 72 ∷ 8 ∶ count ∷ 8 ∶ image ∷ 8 ∶ len ∷ []) ≡ word_bytes (head_words tags count image len size)
unfolding head_words word_bytes field_bytes bytes_of
head_are tags count image len size =
    ap (λ l. bytes_of 8 7198539536 ++ (bytes_of 8 size ++ (bytes_of 8 32 ++ (bytes_of 8 40 ++ (l ++ (bytes_of 8 72 ++ (bytes_of 8 count ++ (bytes_of 8 image ++ (bytes_of 8 len ++ []))))))))) (sym (tags_are tags))

-- ---- one string more, behind those that stand there

pub string_turn : (d : List ℕ) (first : ℕ) (xs : List (List ℕ)) (x : List ℕ) → 72 + 8 * length xs + 8 ≤ first → first + length (string_bytes xs) + length x + 1 ≤ length d
    → (o out : List ℕ) (field at : ℕ) → o ≡ laid first xs d → field ≡ 72 + 8 * length xs → at ≡ first + length (string_bytes xs) → out ≡ overwrite (overwrite o field (bytes_of 8 at)) at (x ++ (0 ∷ []))
    → out ≡ laid first (xs ++ (x ∷ [])) d
string_turn d first xs x below room o out field at e f a q =
    let offs : List ℕ = field_bytes (offsets first xs) in
    let strs : List ℕ = string_bytes xs in
    let w : List ℕ = bytes_of 8 at in
    let more : List ℕ = field_bytes (offsets first (xs ++ (x ∷ []))) in
    let lw : length w ≡ 8 = length_bytes_of 8 at in
    let lo : length offs ≡ 8 * length xs = length-offsets first xs in
    let grown : offs ++ w ≡ more = ap (λ k. offs ++ bytes_of 8 k) a ∙ sym (offsets_more xs first x) in
    q
    ∙ ap (λ y. overwrite (overwrite y field w) at (x ++ (0 ∷ []))) e
    ∙ ap (λ y. overwrite y at (x ++ (0 ∷ []))) (overwrite-apart (overwrite d 72 offs) w strs field first (omega arith) (omega (arith, length-overwrite d 72 offs)))
    ∙ ap (λ y. overwrite (overwrite y first strs) at (x ++ (0 ∷ []))) (overwrite_then d 72 field offs w (omega arith) (omega arith) ∙ ap (overwrite d 72) grown)
    ∙ overwrite_then (overwrite d 72 more) first at strs (x ++ (0 ∷ [])) (sym a) (omega (arith, length-append x (0 ∷ []), length-overwrite d 72 more))
    ∙ ap (overwrite (overwrite d 72 more) first) (sym (strings_more xs x))

-- ---- the pairs, one after another

module _ (d buf : List ℕ) (pairs : List StringPair) (first : ℕ) (start : first ≡ 72 + 16 * length pairs) (room : first + length (string_bytes (strings buf pairs)) ≤ length d) (i : ℕ) (more : i < length pairs) where
  abbrev pair : StringPair
  pair = get_or pairs i no_pair

  abbrev key : List ℕ
  key = bytes_at buf pair.key

  abbrev text : List ℕ
  text = bytes_at buf pair.text

  abbrev before : List (List ℕ)
  before = strings buf (take i pairs)

  -- how long they are with this pair, and without it
  length_before : length before ≡ 2 * i
  length_before = length-texts (map (key_text buf) (take i pairs)) ∙ omega (arith, length-map (take i pairs) (key_text buf), length-take i pairs)

  length_key : length (before ++ (key ∷ [])) ≡ 2 * i + 1
  length_key = simp length-append (omega (arith, length_before))

  bytes_key : length (string_bytes (before ++ (key ∷ []))) ≡ length (string_bytes before) + length key + 1
  bytes_key = length_more before key

  pub bytes_text : length (string_bytes (strings buf (take (i + 1) pairs))) ≡ length (string_bytes before) + length key + 1 + length text + 1
  bytes_text = ap (λ xs. length (string_bytes xs)) (pair_more buf pairs i more) ∙ omega (arith, length_more (before ++ (key ∷ [])) text, bytes_key)

  pub pair_room : first + length (string_bytes before) + length key + 1 + length text + 1 ≤ length d
  pair_room = omega (arith, bytes_text, strings_within buf pairs (i + 1))

  -- o is what stands there before, p when the key is written, and q when the text is
  module _ (k t : List ℕ) (k_is : k ≡ key) (t_is : t ≡ text) (o p q : List ℕ) (at behind : ℕ) (o_is : o ≡ laid first before d) (at_is : at ≡ first + length (string_bytes before)) (behind_is : behind ≡ at + length k + 1) where
    pub pair_turn : p ≡ overwrite (overwrite o (72 + 16 * i) (bytes_of 8 at)) at (k ++ (0 ∷ [])) → q ≡ overwrite (overwrite p (72 + 16 * i + 8) (bytes_of 8 behind)) behind (t ++ (0 ∷ []))
        → q ≡ laid first (strings buf (take (i + 1) pairs)) d
    pair_turn p_is q_is =
        string_turn d first (before ++ (key ∷ [])) text (omega (arith, length_key, start)) (omega (arith, bytes_key, pair_room)) p q (72 + 16 * i + 8) behind
        (string_turn d first before key (omega (arith, length_before, start)) (omega (arith, pair_room)) o p (72 + 16 * i) at o_is (omega (arith, length_before)) at_is (p_is ∙ ap (λ x. overwrite (overwrite o (72 + 16 * i) (bytes_of 8 at)) at (x ++ (0 ∷ []))) k_is))
        (omega (arith, length_key)) (omega (arith, bytes_key, ap length k_is)) (q_is ∙ ap (λ x. overwrite (overwrite p (72 + 16 * i + 8) (bytes_of 8 behind)) behind (x ++ (0 ∷ []))) t_is)
        ∙ ap (λ xs. laid first xs d) (sym (pair_more buf pairs i more))

pub laid_none : (d buf : List ℕ) (first : ℕ) → d ≡ laid first (strings buf []) d
unfolding texts offsets field_bytes string_bytes
laid_none d buf first = sym (overwrite_nil (overwrite d 72 []) first ∙ overwrite_nil d 72)
