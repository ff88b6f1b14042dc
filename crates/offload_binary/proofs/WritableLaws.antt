-- What the writer does not refuse reads back as it was given. Assumes nothing.
use Prim.Native.Nat.{ℕ, ◌/◌, ◌%◌, ◌<◌}
use native.Mathlib.Omega.{arith}
use mathlib.Core.Path.{◌≡◌, refl, sym, ap, ◌∙◌}
use mathlib.Core.Bool.{false}
use mathlib.Core.List.{List, [], ◌∷◌, map}
use lib.ListN.{length, get_or, length-map}
use lib.Dec.{eqb}
use borrow.Author.Tests.{le-ltb, eqb-true, eqb-false}
use Rattle.std.proofs.lemmas.List.{get_or-map}
use Rattle.wire.specs.Bytes.{same, empty}
use Rattle.wire.proofs.Bools.{by_bool, neither_or}
use Rattle.wire.proofs.FirstLaws.{any_none}
use Rattle.wire.proofs.StopLaws.{earlier-same}
use Rattle.offload_binary.specs.Binary.{bytes_at, no_pair, key_in}
use Rattle.offload_binary.specs.Contents.{KeyText, no_key_text, key_text, texts, key_of, bad_text, bad_key_texts}
use Rattle.offload_binary.specs.declared.Part.{Part}
use Rattle.offload_binary.specs.declared.StringPair.{StringPair}
use Rattle.offload_binary.proofs.WrittenLaws.{length-texts, texts-key, texts-text}
use Rattle.offload_binary.specs.Writer.{bad_pairs}
use Rattle.offload_binary.proofs.CallLaws.{PartFits, PairFits, pair-fits, few_pairs, pair-good, keys_differ}

part_good : (buf : List ℕ) (p : Part) → PartFits buf p → bad_text (bytes_at buf p) ≡ false
unfolding bad_text
part_good buf p f = neither_or _ _ (le-ltb _ _ (omega (arith, f.long, f.short))) f.clean

module _ (buf : List ℕ) (pairs : List StringPair) (good : bad_pairs buf pairs ≡ false) where
  abbrev ts : List KeyText
  ts = map (key_text buf) pairs

  length_ts : length ts ≡ length pairs
  length_ts = length-map pairs (key_text buf)

  given_at : (i : ℕ) → i < length pairs → get_or ts i no_key_text ≡ key_text buf (get_or pairs i no_pair)
  given_at i h = get_or-map (key_text buf) pairs i no_pair no_key_text h

  fits : (i : ℕ) → i < length pairs → PairFits buf (get_or pairs i no_pair)
  fits i h = pair-fits buf (get_or pairs i no_pair) (pair-good buf pairs good i h)

  text-good : (j : ℕ) → j < length (texts ts) → bad_text (get_or (texts ts) j []) ≡ false
  unfolding key_of key_text
  text-good j h =
      let k : j / 2 < length pairs = omega (arith, length-texts ts, length_ts) in
      let p = get_or pairs (j / 2) no_pair in
      by_bool (eqb (j % 2) 0)
      (λ t. let e = eqb-true (j % 2) 0 t in
      ap bad_text (texts-key ts (j / 2) j (omega arith) ∙ ap (λ t. t.key) (given_at (j / 2) k)) ∙ part_good buf p.key (fits (j / 2) k).key)
      (λ f. let e = eqb-false (j % 2) 0 f in
      ap bad_text (texts-text ts (j / 2) j (omega arith) ∙ ap (λ t. t.text) (given_at (j / 2) k)) ∙ part_good buf p.text (fits (j / 2) k).text)

  key_is : (i : ℕ) → i < length pairs → key_of ts i ≡ key_in buf pairs i
  unfolding key_of key_in key_text
  key_is i h = ap (λ t. t.key) (given_at i h)

  some_key : (i : ℕ) → i < length pairs → empty (key_in buf pairs i) ≡ false
  unfolding key_in
  some_key i h =
      let f = fits i h in
      full (bytes_at buf (get_or pairs i no_pair).key) (λ z. f.some (sym f.key.long ∙ z))
    where
      full : (x : List ℕ) → (length x ≡ 0 → ⊥) → empty x ≡ false
      full [] e = absurd (e refl)
      full (y ∷ x) e = unfold empty in refl

  pub strings_writable : bad_key_texts ts ≡ false
  unfolding bad_key_texts
  strings_writable =
      let l = length_ts in
      neither_or _ _ (neither_or _ _ (neither_or _ _ (le-ltb 32 (length ts) (omega (arith, few_pairs buf pairs good))) (any_none (length (texts ts)) _ text-good))
      (any_none (length ts) _ (λ i h. ap empty (key_is i (omega arith)) ∙ some_key i (omega arith))))
      (any_none (length ts) _ (λ i h. earlier-same same (length pairs) (key_of ts) (key_in buf pairs) key_is i (omega arith) ∙ keys_differ buf pairs good i (omega arith)))
