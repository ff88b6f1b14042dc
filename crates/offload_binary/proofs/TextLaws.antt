-- Keys and texts one after another, as the writer's loop goes through them. Assumes nothing.
use Prim.Native.Nat.{ℕ, ◌+◌, ◌<◌, ◌≤◌}
use native.Mathlib.Omega.{arith}
use mathlib.Core.Path.{◌≡◌, refl, sym, ap, ◌∙◌}
use mathlib.Core.List.{List, [], ◌∷◌, ◌++◌, map, append-nil, append_assoc}
use lib.ListN.{length, get_or, take, drop, length-append}
use Rattle.std.proofs.lemmas.List.{map_more, map-append, take-append-drop}
use Rattle.wire.specs.Word.{bytes_of}
use Rattle.offload_binary.specs.Binary.{bytes_at, no_pair}
use Rattle.offload_binary.specs.Contents.{KeyText, key_text, field_bytes, texts, string_bytes, offsets}
use Rattle.offload_binary.specs.declared.StringPair.{StringPair}
use Rattle.offload_binary.proofs.WrittenLaws.{length_strings, strings_append}

-- ---- one string more

pub offsets_more : (xs : List (List ℕ)) (from : ℕ) (x : List ℕ) → field_bytes (offsets from (xs ++ (x ∷ []))) ≡ field_bytes (offsets from xs) ++ bytes_of 8 (from + length (string_bytes xs))
unfolding offsets field_bytes
offsets_more [] from x = let z : from ≡ from + length (string_bytes []) = unfold string_bytes in (omega arith) in ap (λ k. bytes_of 8 k ++ []) z ∙ append-nil (bytes_of 8 (from + length (string_bytes [])))
offsets_more (y ∷ xs) from x =
    let e : from + length y + 1 + length (string_bytes xs) ≡ from + length (string_bytes (y ∷ xs)) = omega (arith, length_strings y xs) in
    ap (bytes_of 8 from ++◌) (offsets_more xs (from + length y + 1) x ∙ ap (λ k. field_bytes (offsets (from + length y + 1) xs) ++ bytes_of 8 k) e)
    ∙ sym (append_assoc (bytes_of 8 from) (field_bytes (offsets (from + length y + 1) xs)) (bytes_of 8 (from + length (string_bytes (y ∷ xs)))))

pub strings_more : (xs : List (List ℕ)) (x : List ℕ) → string_bytes (xs ++ (x ∷ [])) ≡ string_bytes xs ++ (x ++ (0 ∷ []))
strings_more xs x = strings_append xs (x ∷ []) ∙ (unfold string_bytes in refl)

pub length_more : (xs : List (List ℕ)) (x : List ℕ) → length (string_bytes (xs ++ (x ∷ []))) ≡ length (string_bytes xs) + length x + 1
length_more xs x = ap length (strings_more xs x) ∙ length-append (string_bytes xs) (x ++ (0 ∷ [])) ∙ omega (arith, length-append x (0 ∷ []))

-- ---- one pair more

texts_append : (a b : List KeyText) → texts (a ++ b) ≡ texts a ++ texts b
unfolding texts
texts_append [] b = refl
texts_append (t ∷ a) b = ap (λ l. t.key ∷ t.text ∷ l) (texts_append a b)

module _ (buf : List ℕ) where
  -- the keys and texts of pairs
  abbrev pub strings : List StringPair → List (List ℕ)
  strings pairs = texts (map (key_text buf) pairs)

  pub pair_more : (pairs : List StringPair) (i : ℕ) → i < length pairs
      → strings (take (i + 1) pairs) ≡ (strings (take i pairs) ++ (bytes_at buf (get_or pairs i no_pair).key ∷ [])) ++ (bytes_at buf (get_or pairs i no_pair).text ∷ [])
  unfolding key_text texts
  pair_more pairs i h = ap texts (map_more (key_text buf) pairs i no_pair h) ∙ texts_append (map (key_text buf) (take i pairs)) (key_text buf (get_or pairs i no_pair) ∷ []) ∙ sym (append_assoc (strings (take i pairs)) _ _)

  -- the first pairs have no more bytes than all
  pub strings_within : (pairs : List StringPair) (i : ℕ) → length (string_bytes (strings (take i pairs))) ≤ length (string_bytes (strings pairs))
  strings_within pairs i =
      let front = map (key_text buf) (take i pairs) in
      let back = map (key_text buf) (drop i pairs) in
      let e : strings pairs ≡ texts front ++ texts back = ap strings (sym (take-append-drop i pairs)) ∙ ap texts (map-append (key_text buf) (take i pairs) (drop i pairs)) ∙ texts_append front back in
      omega (arith, ap (λ l. length (string_bytes l)) e, ap length (strings_append (texts front) (texts back)), length-append (string_bytes (texts front)) (string_bytes (texts back)))
