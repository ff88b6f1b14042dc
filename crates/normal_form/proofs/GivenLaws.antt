-- The entries of records that were examined, as the code lists them. Assumes nothing.
use Prim.Native.Nat.{ℕ, min, ◌+◌, ◌-◌, ◌<◌, ◌≤◌}
use native.Mathlib.Omega.{arith}
use mathlib.Core.Path.{◌≡◌, sym, ap, ap₂, ◌∙◌}
use mathlib.Core.List.Memᴰ
use mathlib.Core.List.{List, ◌++◌, map-append, Memᴰ}
use mathlib.Core.Logic.{⊎_elim}
use lib.ListN.{length, take, drop, set, length-drop, drop_of_length-le}
use lib.Seq.{take_at, take_all, drop-append_seam}
use Rattle.std.proofs.lemmas.Bool.{cases_lt}
use Rattle.std.proofs.lemmas.List.{take_min, take-map, drop-map, map-set, length-map}
use Rattle.wire.specs.Stop.{over}
use Rattle.wire.specs.Lists.{tab}
use Rattle.wire.specs.Order.{sort_by}
use Rattle.wire.proofs.ListLaws.{member_at}
use Rattle.wire.proofs.SortLaws.{sort_map, sort_out, sort_length}
use Rattle.wire.proofs.TabLaws.{length_tab, get_d_tab, tab_same}
use Rattle.entry_id.specs.IdRules.{IdRules, Lawful}
use Rattle.bundle.specs.Table.{Row}
use Rattle.bundle.specs.Entry.{Entry, no_entry, image_of, entry_of, entries_of}
use Rattle.bundle.specs.Normal.{by_id}
use Rattle.bundle.specs.Records.{row_of, rows_of}
use Rattle.bundle.specs.declared.EntryRecord.{EntryRecord}
use Rattle.bundle_reader.specs.Examined.{id_at}
use Rattle.bundle_reader.proofs.EachLaws.{over_more}
use Rattle.normal_form.specs.Code.{id_of, value, values, entry_at, first_given, given, Short}
use Rattle.normal_form.specs.declared.Entry.{Entry as Held}

-- bytes, as far as they lie inside
pub cut : (s : List ℕ) (start len a n : ℕ) → a ≡ min start (length s) → n ≡ min len (length (take (length s - a) (drop a s))) → take n (take (length s - a) (drop a s)) ≡ take len (drop start s)
cut s start len a n e f =
    let rest : List ℕ = take (length s - a) (drop a s) in
    ap (λ k. take k rest) f ∙ take_min len rest ∙ ap (take len) (take_all (length s - a) (drop a s) (omega (arith, length-drop a s)) ∙ from)
  where
    from : drop a s ≡ drop start s
    from =
        ⊎_elim
        (λ (h : length s < start). let z : a ≡ length s = omega arith in ap (λ k. drop k s) z ∙ drop_of_length-le s {i = length s} (omega arith) ∙ sym (drop_of_length-le s {i = start} (omega arith)))
        (λ (h : start ≤ length s). let z : a ≡ start = omega arith in ap (λ k. drop k s) z)
        (cases_lt (length s) start)

-- one more entry is listed
pub listed_more : (es before : List Held) (i : ℕ) (e : Held) (f : ℕ → Entry) → i < length before → value e ≡ f i → values es ≡ over (tab i f) (values before)
    → values (set es i e) ≡ over (tab (i + 1) f) (values before)
listed_more es before i e f h q p = map-set value es i e ∙ over_more f (values before) i (values es) (value e) (omega (arith, length-map before value)) p q

pub sorted_values : (es now : List Held) → now ≡ sort_by id_of es → values now ≡ sort_by by_id (values es)
sorted_values es now q = ap values q ∙ sort_map value by_id es

-- those that were listed, and their order
module _ (es : List Held) (tail : List Entry) (n : ℕ) (front : List Entry) (size : length front ≡ n) (p : values es ≡ over front tail) where
  whole : values es ≡ front ++ drop n tail
  unfolding over
  whole = p ∙ ap (λ k. front ++ drop k tail) size

  pub listed_front : values (take n es) ≡ front
  listed_front = sym (take-map value n es) ∙ ap (take n) whole ∙ take_at front _ n size

  pub listed_sorted : (now : List Held) → now ≡ sort_by id_of (take n es) → values (now ++ drop n es) ≡ over (sort_by by_id front) tail
  unfolding over
  listed_sorted now q =
      map-append value now (drop n es)
      ∙ ap₂ ◌++◌
      (sorted_values (take n es) now q ∙ ap (sort_by by_id) listed_front)
      (sym (drop-map value n es) ∙ ap (drop n) whole ∙ ap (λ k. drop k (front ++ drop n tail)) (sym size) ∙ drop-append_seam front _ ∙ ap (λ k. drop k tail) (sym (sort_length by_id front ∙ size)))

-- ---- records whose IDs lie in `buffer` and whose images lie in `src`, with the canonical IDs of their rows beside them

module _ (R : IdRules) (src buffer : List ℕ) (records : List EntryRecord) (ids : List (List ℕ)) (f : ℕ → Row)
    (named : (k : ℕ) → k < length records → rows_of buffer records k ≡ f k)
    (canonical : (k : ℕ) → k < length records → id_at ids k ≡ R.canon (f k).id)
  where
    pub given_is : given src records ids ≡ entries_of R src (length records) f
    unfolding first_given entries_of entry_at entry_of rows_of row_of image_of
    given_is =
        tab_same (length records) (entry_at src records ids) (λ k. entry_of R src (f k))
        (λ k h. ap₂ (λ a b. record { id = a; image = b }) (canonical k h) (ap (image_of src) (named k h)))

-- ---- listed entries that are those of rows, as they stand or in order

module _ (R : IdRules) (L : Lawful R) (src : List ℕ) (n : ℕ) (f : ℕ → Row) where
  canonical_short : (x : Entry) → Memᴰ x (entries_of R src n f) → length x.id ≤ 256
  unfolding entries_of entry_of
  canonical_short x m =
      let p = member_at (entries_of R src n f) no_entry x m in
      let e : x ≡ entry_of R src (f p.0) = p.2 ∙ get_d_tab n (λ i. entry_of R src (f i)) p.0 no_entry (omega (arith, p.1, length_tab n (λ i. entry_of R src (f i)))) in
      rw e (L.canon_short (f p.0).id)

  module _ (es : List Held) where
    pub given_short : values es ≡ entries_of R src n f → Short es
    given_short q e m = canonical_short (value e) (rw q at (Memᴰ.map value m))

    pub sorted_short : values es ≡ sort_by by_id (entries_of R src n f) → Short es
    sorted_short q e m = canonical_short (value e) (sort_out by_id (value e) (entries_of R src n f) (rw q at (Memᴰ.map value m)))
