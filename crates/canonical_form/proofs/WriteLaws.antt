-- The canonical form written part by part. Assumes nothing.
use Rattle.std.proofs.Common.{◌≡◌, ℕ, zero, suc, ◌+◌, ◌-◌, ◌<◌, ◌≤◌, List, [], ◌∷◌, ◌++◌, length, get_or, take, drop, replicate, sym, refl, ap, ◌∙◌, append-nil, add-one, arith, length-append, length-drop, drop_of_length-le, length-take-le, drop-cons, take-add}
use Rattle.wire.specs.Bytes.{overwrite}
use Rattle.wire.proofs.OverwriteLaws.{overwrite_nil, overwrite-next, overwrite_then}
use Rattle.canonical_form.specs.Spans.{chunk_of, chunks, head_text}
use Rattle.canonical_form.specs.declared.features.Span.{Span}
use Rattle.entry_id.specs.Scan.{part}

-- ---- the features one after the other

pub dashes_are : (d : ℕ) → d ≤ 2 → take {A = ℕ} d (45 ∷ 45 ∷ []) ≡ replicate d 45
dashes_are zero h = refl
dashes_are (suc zero) h = refl
dashes_are (suc (suc zero)) h = refl
dashes_are (suc (suc (suc d))) h = absurd (omega arith)

pub dashes-length : (d : ℕ) → d ≤ 2 → length (take {A = ℕ} d (45 ∷ 45 ∷ [])) ≡ d
dashes-length d h = length-take-le d (45 ∷ 45 ∷ []) h

module _ (o x : List ℕ) (at dashes stop : ℕ) (pl : at ≤ stop) (w : stop ≤ length x) (few : dashes ≤ 2) (room : stop + dashes ≤ length o) where
  pub head_over : overwrite (overwrite (overwrite o 0 (take at x)) at (take {A = ℕ} dashes (45 ∷ 45 ∷ []))) (at + dashes) (take (stop - at) (drop at x)) ≡ overwrite o 0 (head_text x at dashes stop)
  unfolding head_text part
  head_over =
      let a = take at x in
      let d = take {A = ℕ} dashes (45 ∷ 45 ∷ []) in
      let b = take (stop - at) (drop at x) in
      let la : length a ≡ at = length-take-le at x (omega arith) in
      let ld : length d ≡ dashes = dashes-length dashes few in
      let lb : length b ≡ stop - at = length-take-le (stop - at) (drop at x) (omega (arith, length-drop at x)) in
      let one = overwrite_then o 0 at a d (omega arith) (omega arith) in
      let two = overwrite_then o 0 (at + dashes) (a ++ d) b (omega (arith, length-append a d)) (omega arith) in
      ap (λ l. overwrite l (at + dashes) b) one ∙ two ∙ ap (λ l. overwrite o 0 (a ++ l ++ b)) (dashes_are dashes few)

-- no dashes: the text as it is
pub head_whole : (x : List ℕ) (at dashes upto : ℕ) → at ≤ upto → dashes ≡ 0 → take upto x ≡ head_text x at dashes upto
unfolding head_text part
head_whole x at dashes upto h e =
    let k : upto ≡ at + (upto - at) = omega arith in
    rw e (ap (λ n. take n x) k ∙ take-add at (upto - at) x ∙ ap (λ l. l ++ take (upto - at) (drop at x)) (sym (append-nil (take at x))))

-- one feature more
module _ (x o : List ℕ) (t : List Span) (i q : ℕ) (c u : List ℕ) (d : Span) (h : i < length t) (ce : c ≡ chunk_of x (get_or t i d)) where
  next_is : chunks x (drop i t) ≡ c ++ chunks x (drop (i + 1) t)
  unfolding chunks
  next_is = rw (drop-cons t i d h, sym ce, add-one i)

  pub next-length : q + length c + length (chunks x (drop (i + 1) t)) ≡ q + length (chunks x (drop i t))
  next-length = omega (arith, ap length next_is ∙ length-append c (chunks x (drop (i + 1) t)))

  pub next-over : u ≡ overwrite o q c → q + length (chunks x (drop i t)) ≤ length o
      → overwrite u (q + length c) (chunks x (drop (i + 1) t)) ≡ overwrite o q (chunks x (drop i t))
  next-over e k = rw e (overwrite-next o q c (chunks x (drop (i + 1) t)) (omega (arith, next-length)) ∙ ap (overwrite o q) (sym next_is))

pub last_over : (x o : List ℕ) (t : List Span) (i q : ℕ) → length t ≤ i → overwrite o q (chunks x (drop i t)) ≡ o
unfolding chunks
last_over x o t i q h =
    let e : drop i t ≡ [] = drop_of_length-le t {i = i} h in
    ap (λ l. overwrite o q (chunks x l)) e ∙ overwrite_nil o q
