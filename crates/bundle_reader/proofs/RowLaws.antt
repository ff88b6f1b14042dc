-- Rows that were read. Assumes nothing.
use Prim.Native.Nat.{ℕ, ◌+◌, ◌-◌, ◌<◌, ◌≤◌}
use native.Mathlib.Omega.{arith}
use native.Mathlib.Numerals.{add-one}
use mathlib.Core.Path.{◌≡◌, sym, ap, ◌∙◌}
use mathlib.Core.Bool.{Bool, false}
use mathlib.Core.List.{List}
use lib.ListN.{length, take, drop}
use Rattle.bundle.specs.Table.{count, row_start, row, row_at}
use Rattle.bundle.specs.Check.{bad_row}
use Rattle.bundle.specs.Accepted.{RowFits, Framed}
use Rattle.bundle.specs.Records.{no_record, record_at, row_of, rows_of}
use Rattle.bundle.specs.declared.EntryRecord.{EntryRecord}
use Rattle.bundle.proofs.CheckLaws.{row_fits}
use Rattle.bundle_reader.specs.Examined.{filled, held_row, row_held}
use Rattle.bundle_reader.proofs.FilledLaws.{length-filled, front-length, front_at}

pub fine : (s : List ℕ) (at : ℕ) (b : Bool) → b ≡ bad_row s at → b ≡ false → RowFits s at
fine s at b p q = (row_fits s at).0 (sym p ∙ q)

pub row_inside : (s : List ℕ) (at : ℕ) (r : EntryRecord) → r ≡ held_row s at → RowFits s at → r.id_start + r.id_len ≤ length s
unfolding held_row
row_inside s at r e f = rw e f.id_in

-- the row that is read at the start of row i
module _ (s : List ℕ) (i at : ℕ) (e : at ≡ row_start s i) (r : EntryRecord) (q : r ≡ held_row s at) where
  pub row_is : r ≡ row_held s i
  row_is = q ∙ ap (held_row s) e

  pub row_next : r.id_start + r.id_len ≡ row_start s (i + 1)
  unfolding held_row row_start
  row_next = ap (λ z. z.id_start + z.id_len) row_is ∙ rw add-one

-- row k, from its record
pub row_meant : (s : List ℕ) (k : ℕ) (r : EntryRecord) → r ≡ row_held s k → row_of s r ≡ row s k
unfolding row_of held_row row row_at
row_meant s k r e = ap (row_of s) e

-- the rows of s, in the first n places
module _ (s : List ℕ) (n : ℕ) (rows₀ rows : List EntryRecord) (size : n ≡ count s) (e : rows ≡ filled rows₀ (count s) (row_held s)) (room : count s ≤ length rows₀) where
  held : rows ≡ filled rows₀ n (row_held s)
  held = e ∙ ap (λ m. filled rows₀ m (row_held s)) (sym size)

  pub rows_room : n ≤ length rows
  rows_room = omega (arith, size, room, ap length e, length-filled rows₀ (count s) (row_held s))

  pub rows-length : length (take n rows) ≡ n
  rows-length = front-length rows₀ n (row_held s) rows held (omega (arith, size, room))

  pub rows_at : (k : ℕ) → k < n → record_at (take n rows) k ≡ row_held s k
  unfolding record_at
  rows_at k h = front_at rows₀ n (row_held s) rows held (omega (arith, size, room)) no_record k h

  pub rows_are : (k : ℕ) → k < count s → rows_of s (take n rows) k ≡ row s k
  unfolding rows_of
  rows_are k h = row_meant s k _ (rows_at k (omega (arith, size)))

  pub rows_inside : Framed s → (k : ℕ) → k < length (take n rows) → (record_at (take n rows) k).id_start + (record_at (take n rows) k).id_len ≤ length s
  rows_inside f k h =
      let l : k < n = omega (arith, rows-length) in
      row_inside s (row_start s k) (record_at (take n rows) k) (rows_at k l) (f.rows k (omega (arith, size)))

-- the ID of a record, as it is cut
pub part_id : (s : List ℕ) (r : EntryRecord) → take (r.id_start + r.id_len - r.id_start) (drop r.id_start s) ≡ (row_of s r).id
unfolding row_of
part_id s r = let e : r.id_start + r.id_len - r.id_start ≡ r.id_len = omega arith in ap (λ n. take n (drop r.id_start s)) e
