-- Rows are read as they were written. Assumes nothing.
use Prim.Native.Nat.{ℕ, zero, suc, ◌+◌, ◌^◌, ◌<◌, ◌≤◌}
use native.Mathlib.Omega.{arith}
use mathlib.Core.Path.{◌≡◌, refl, sym, ap, ◌∙◌}
use mathlib.Core.List.{List, [], ◌∷◌, ◌++◌, append_assoc, append-nil}
use lib.ListN.{length, get_or, take, drop, length-append}
use lib.Seq.{take-length, drop_at, take_at, split_at, take-suc}
use Rattle.wire.specs.Word.{bytes_of, word}
use Rattle.wire.proofs.WordLaws.{length_bytes_of, word_at}
use Rattle.bundle.specs.Table.{Row, magic, count, row_start, row, row_at, table_end}
use Rattle.bundle.specs.Layout.{row_bytes, table, bundle, no_row}

-- the head and the table, with a count n
unfoldable pub front : ℕ → List Row → List ℕ
front n rs = magic ++ bytes_of 8 n ++ table rs

-- each number of a row fits its 8 bytes
pub record Small (r : Row) : Type 0 where
  pub offset_fits : r.offset < 256 ^ 8
  pub size_fits : r.size < 256 ^ 8
  pub id_fits : length r.id < 256 ^ 8

pub length-magic : length magic ≡ 24
unfolding magic
length-magic = refl

pub length-row_bytes : (r : Row) → length (row_bytes r) ≡ 24 + length r.id
unfolding row_bytes
length-row_bytes r = simp (length-append, length_bytes_of) (omega arith)

pub length_front : (n : ℕ) (rs : List Row) → length (front n rs) ≡ 32 + length (table rs)
unfolding front
length_front n rs = simp (length-append, length_bytes_of, length-magic) (omega arith)

pub length-bundle : (rs : List Row) (body : List ℕ) → length (bundle rs body) ≡ 32 + length (table rs) + length body
unfolding bundle
length-bundle rs body = simp (length-append, length_bytes_of, length-magic) (omega arith)

pub table-append : (a b : List Row) → table (a ++ b) ≡ table a ++ table b
unfolding table
table-append [] b = refl
table-append (r ∷ a) b = rw (table-append a b, append_assoc)

pub table-one : (r : Row) → table (r ∷ []) ≡ row_bytes r
unfolding table
table-one r = append-nil (row_bytes r)

-- ---- one row

-- a row that stands at `at`
module _ (p : List ℕ) (r : Row) (rest : List ℕ) (at : ℕ) (e : length p ≡ at) (h : Small r) where
  abbrev whole : List ℕ
  whole = p ++ (row_bytes r ++ rest)

  abbrev p₁ : List ℕ
  p₁ = p ++ bytes_of 8 r.offset

  abbrev p₂ : List ℕ
  p₂ = p₁ ++ bytes_of 8 r.size

  abbrev p₃ : List ℕ
  p₃ = p₂ ++ bytes_of 8 (length r.id)

  cut₀ : whole ≡ p ++ (bytes_of 8 r.offset ++ (bytes_of 8 r.size ++ (bytes_of 8 (length r.id) ++ (r.id ++ rest))))
  unfolding row_bytes
  cut₀ = simp append_assoc

  cut₁ : whole ≡ p₁ ++ (bytes_of 8 r.size ++ (bytes_of 8 (length r.id) ++ (r.id ++ rest)))
  unfolding row_bytes
  cut₁ = simp append_assoc

  cut₂ : whole ≡ p₂ ++ (bytes_of 8 (length r.id) ++ (r.id ++ rest))
  unfolding row_bytes
  cut₂ = simp append_assoc

  cut₃ : whole ≡ p₃ ++ (r.id ++ rest)
  unfolding row_bytes
  cut₃ = simp append_assoc

  offset_read : word 8 whole at ≡ r.offset
  offset_read = ap (λ s. word 8 s at) cut₀ ∙ word_at 8 p r.offset _ at e h.offset_fits

  size_read : word 8 whole (at + 8) ≡ r.size
  size_read = ap (λ s. word 8 s (at + 8)) cut₁ ∙ word_at 8 p₁ r.size _ (at + 8) (simp (length-append, length_bytes_of) (omega arith)) h.size_fits

  len_read : word 8 whole (at + 16) ≡ length r.id
  len_read = ap (λ s. word 8 s (at + 16)) cut₂ ∙ word_at 8 p₂ (length r.id) _ (at + 16) (simp (length-append, length_bytes_of) (omega arith)) h.id_fits

  id_read : take (word 8 whole (at + 16)) (drop (at + 24) whole) ≡ r.id
  id_read =
      rw len_read
      (ap (λ s. take (length r.id) (drop (at + 24) s)) cut₃
      ∙ ap (take (length r.id)) (drop_at p₃ (r.id ++ rest) (at + 24) (simp (length-append, length_bytes_of) (omega arith)))
      ∙ take_at r.id rest (length r.id) refl)

  row_read : row_at whole at ≡ r
  unfolding row_at
  row_read = λ i. record { offset = offset_read i; size = size_read i; id = id_read i }

-- ---- the table

-- cut before row i
pub front_cut : (n : ℕ) (rs : List Row) (i : ℕ) → i < length rs → (body : List ℕ)
    → front n rs ++ body ≡ front n (take i rs) ++ (row_bytes (get_or rs i no_row) ++ (table (drop (suc i) rs) ++ body))
unfolding front
front_cut n rs i h body =
    let t : table rs ≡ table (take i rs) ++ (row_bytes (get_or rs i no_row) ++ table (drop (suc i) rs)) =
    ap table (split_at rs i no_row h) ∙ table-append (take i rs) (get_or rs i no_row ∷ drop (suc i) rs) ∙ unfold table in refl in
    rw t (simp append_assoc)

table_nil : length (table []) ≡ 0
unfolding table
table_nil = refl

table_step : (rs : List Row) (i : ℕ) → i < length rs → length (table (take (suc i) rs)) ≡ length (table (take i rs)) + (24 + length (get_or rs i no_row).id)
table_step rs i h =
    ap (λ l. length (table l)) (take-suc rs i no_row h)
    ∙ ap length (table-append (take i rs) (get_or rs i no_row ∷ []) ∙ ap (λ t. table (take i rs) ++ t) (table-one (get_or rs i no_row)))
    ∙ simp (length-append, length-row_bytes)

module _ (rs : List Row) (body : List ℕ) (small : (i : ℕ) → i < length rs → Small (get_or rs i no_row)) where
  pub len_bundle : (i at : ℕ) → i < length rs → at ≡ length (front (length rs) (take i rs)) → word 8 (bundle rs body) (at + 16) ≡ length (get_or rs i no_row).id
  unfolding bundle front
  len_bundle i at h e =
      ap (λ s. word 8 s (at + 16)) (front_cut (length rs) rs i h body)
      ∙ len_read (front (length rs) (take i rs)) (get_or rs i no_row) (table (drop (suc i) rs) ++ body) at (sym e) (small i h)

  -- row i starts after the rows before it
  pub start_bundle : (i : ℕ) → i ≤ length rs → row_start (bundle rs body) i ≡ length (front (length rs) (take i rs))
  unfolding row_start
  start_bundle zero h = omega (arith, length_front (length rs) [], table_nil)
  start_bundle (suc i) h =
      let at : row_start (bundle rs body) i ≡ length (front (length rs) (take i rs)) = start_bundle i (omega arith) in
      omega (arith, at, len_bundle i (row_start (bundle rs body) i) h at, table_step rs i h, length_front (length rs) (take i rs), length_front (length rs) (take (suc i) rs))

  pub count-bundle : length rs < 256 ^ 8 → count (bundle rs body) ≡ length rs
  unfolding count bundle
  count-bundle few = ap (λ s. word 8 s 24) (simp append_assoc) ∙ word_at 8 magic (length rs) (table rs ++ body) 24 length-magic few

  pub row-bundle : (i : ℕ) → i < length rs → row (bundle rs body) i ≡ get_or rs i no_row
  unfolding row bundle front
  row-bundle i h =
      let L : ℕ = length (front (length rs) (take i rs)) in
      ap (λ at. row_at (front (length rs) rs ++ body) at) (start_bundle i (omega arith))
      ∙ ap (λ t. row_at t L) (front_cut (length rs) rs i h body)
      ∙ row_read (front (length rs) (take i rs)) (get_or rs i no_row) (table (drop (suc i) rs) ++ body) L refl (small i h)

  pub table_end_bundle : length rs < 256 ^ 8 → table_end (bundle rs body) ≡ 32 + length (table rs)
  unfolding table_end
  table_end_bundle few = rw (count-bundle few, start_bundle (length rs) (omega arith), length_front, take-length)
