-- What is laid out is accepted, and reads back as the entries given. Assumes nothing.
use Prim.Native.Nat.{ℕ, ◌+◌, ◌^◌, ◌<◌, ◌≤◌}
use native.Mathlib.Omega.{arith}
use mathlib.Core.Path.{◌≡◌, refl, ap, ap₂, ◌∙◌}
use mathlib.Core.Bool.{Bool, false}
use mathlib.Core.List.{List, [], ◌∷◌, ◌++◌, append_assoc, Memᴰ}
use lib.ListN.{length, get_or, take, length-append}
use lib.Seq.{ext_get_or, drop-append-add, take_at}
use Rattle.wire.specs.Limit.{limit}
use Rattle.wire.specs.Bytes.{empty}
use Rattle.wire.specs.Lists.{total}
use Rattle.wire.specs.Word.{bytes_of, word}
use Rattle.wire.proofs.Bools.{clash}
use Rattle.wire.proofs.ListLaws.{total-same, at_member}
use Rattle.wire.proofs.SortLaws.{distinct_at}
use Rattle.entry_id.specs.IdRules.{IdRules, Lawful}
use Rattle.bundle.specs.Table.{Row, magic, count, row_start, row}
use Rattle.bundle.specs.Check.{bad_id, mean_same, mix}
use Rattle.bundle.specs.Entry.{Entry, no_entry, image_of, entry_of, entries}
use Rattle.bundle.specs.Accepted.{RowFits, Inside, Framed, Accepted}
use Rattle.bundle.specs.Layout.{row_size, packed_end, table, bundle, no_row, Layout, Writable, LayoutReadsBack}
use Rattle.bundle.proofs.EntryLaws.{entries-length, entries_at}
use Rattle.bundle.proofs.Theorems.{check_exact}
use Rattle.bundle.proofs.LayoutLaws.{front, Small, length-magic, length-row_bytes, length_front, length-bundle, front_cut, len_bundle, start_bundle, count-bundle, row-bundle, table_end_bundle}

some_length : (l : List ℕ) → empty l ≡ false → 1 ≤ length l
unfolding empty
some_length [] e = clash _ refl e
some_length (x ∷ l) e = omega arith

pub length-table : (rs : List Row) → length (table rs) ≡ total (λ r. 24 + length r.id) rs
unfolding table total
length-table [] = refl
length-table (r ∷ rs) = simp (length-append, length-row_bytes, length-table rs)

module _ (es : List Entry) (rs : List Row) (body : List ℕ) (lay : Layout es rs body) where
  pub table_end_lem : 32 + length (table rs) ≡ packed_end es
  unfolding packed_end
  table_end_lem =
      ap (32 +◌)
      (length-table rs
      ∙ total-same _ row_size no_row no_entry rs es lay.one_each (λ i h. ap (λ x. 24 + length x) (lay.laid i (omega (arith, lay.one_each))).id))

  pub length_layout : length (bundle rs body) ≡ packed_end es + length body
  length_layout = omega (arith, length-bundle rs body, table_end_lem)

  module _ (R : IdRules) (L : Lawful R) (good : Writable R es) (within : length (bundle rs body) < 256 ^ 8) where
    abbrev whole : List ℕ
    whole = bundle rs body

    abbrev e : ℕ → Entry
    e i = get_or es i no_entry

    abbrev r : ℕ → Row
    r i = get_or rs i no_row

    index : (i : ℕ) → i < length rs → i < length es
    index i h = omega (arith, lay.one_each)

    id_is : (i : ℕ) → i < length rs → R.canon (r i).id ≡ (e i).id
    id_is i h = ap R.canon (lay.laid i (index i h)).id ∙ good.canonical (e i) (at_member es no_entry i (index i h))

    id-length : (i : ℕ) → i < length rs → (1 ≤ length (r i).id) × (length (r i).id ≤ 256)
    id-length i h =
        let q : length (r i).id ≡ length (e i).id = ap length (lay.laid i (index i h)).id in
        (omega (arith, some_length (e i).id (good.some (e i) (at_member es no_entry i (index i h)))), omega (arith, ap length (id_is i h), L.canon_short (r i).id))

    inside_row : (i : ℕ) → i < length rs → Inside (32 + length (table rs)) (length whole) (r i).offset (r i).size
    inside_row i h =
        let l = lay.laid i (index i h) in
        record { after = omega (arith, table_end_lem, l.offset); within = omega (arith, table_end_lem, length-bundle rs body, l.offset, l.size, l.within) }

    small : (i : ℕ) → i < length rs → Small (r i)
    small i h =
        let g = inside_row i h in
        record { offset_fits = omega (arith, g.within, within); size_fits = omega (arith, g.within, within); id_fits = omega (arith, (id-length i h).1) }

    few : length rs ≤ 64
    few = omega (arith, lay.one_each, good.few)

    counted : count whole ≡ length rs
    counted = count-bundle rs body small (omega (arith, few))

    below : (i : ℕ) → i < count whole → i < length rs
    below i h = omega (arith, counted)

    read : (i : ℕ) → i < count whole → row whole i ≡ r i
    read i h = row-bundle rs body small i (below i h)

    -- row i is wholly inside
    row_in : (i : ℕ) → i < length rs → RowFits whole (row_start whole i)
    row_in i h =
        let p : row_start whole i ≡ length (front (length rs) (take i rs)) = start_bundle rs body small i (omega arith) in
        let l : word 8 whole (row_start whole i + 16) ≡ length (r i).id = len_bundle rs body small i (row_start whole i) h p in
        let c = simp (length-append, length-row_bytes) at (ap length (front_cut (length rs) rs i h body)) in
        record {
          head_in = omega (arith, p, c, length_front (length rs) rs, length-bundle rs body);
          id_some = omega (arith, l, (id-length i h).0);
          id_short = omega (arith, l, (id-length i h).1);
          id_in = omega (arith, p, l, c, length_front (length rs) rs, length-bundle rs body);
        }

    magical : take 24 whole ≡ magic
    unfolding bundle
    magical =
        let e : magic ++ bytes_of 8 (length rs) ++ table rs ++ body ≡ magic ++ (bytes_of 8 (length rs) ++ (table rs ++ body)) = simp append_assoc in
        ap (take 24) e ∙ take_at magic (bytes_of 8 (length rs) ++ (table rs ++ body)) 24 length-magic

    frame : length whole ≤ limit → Framed whole
    frame short = record {
      fits = short;
      magical = magical;
      long = omega (arith, length-bundle rs body);
      few = omega (arith, counted, few);
      rows = λ i h. row_in i (below i h);
    }

    -- a relation that no two of the entries stand in
    unrelated : (related : List ℕ → List ℕ → Bool)
        → ((f g : Entry) → Memᴰ f es → Memᴰ g es → (f.id ≡ g.id → ⊥) → related f.id g.id ≡ false)
        → (i : ℕ) → i < count whole → (j : ℕ) → j < i → related (R.canon (row whole j).id) (R.canon (row whole i).id) ≡ false
    unrelated related apart i h j l =
        let hj : j < count whole = omega arith in
        ap₂ (λ x y. related (R.canon x.id) (R.canon y.id)) (read j hj) (read i h)
        ∙ ap₂ related (id_is j (below j hj)) (id_is i (below i h))
        ∙ apart (e j) (e i) (at_member es no_entry j (index j (below j hj))) (at_member es no_entry i (index i (below i h)))
        (distinct_at (λ f. f.id) es no_entry good.distinct j i l (index i (below i h)))

    pub layout_accepted : length whole ≤ limit → Accepted R whole
    unfolding bad_id mean_same mix
    layout_accepted short = record {
      frame = frame short;
      sense = record {
        meant = record {
          named = λ i h. ap (λ x. empty (R.canon x.id)) (read i h) ∙ ap empty (id_is i (below i h)) ∙ good.some (e i) (at_member es no_entry i (index i (below i h)));
          once = unrelated R.same_meaning good.once;
          unmixed = unrelated R.mixed good.unmixed;
        };
        in_range = λ i h. rw (read i h, table_end_bundle rs body small (omega (arith, few))) (inside_row i (below i h));
      };
      apart = λ i h j l. rw (read i h, read j (omega arith)) (lay.apart i (index i (below i h)) j l);
    }

    pub layout_count : count whole ≡ length es
    layout_count = counted ∙ lay.one_each

    image_back : (i : ℕ) → i < length es → image_of whole (r i) ≡ (e i).image
    unfolding image_of bundle front
    image_back i h =
        let l = lay.laid i h in
        let o : (r i).offset ≡ length (front (length rs) rs) + l.k = omega (arith, l.offset, length_front (length rs) rs, table_end_lem) in
        rw (l.size, o, drop-append-add) l.image

    entry_back : (i : ℕ) → i < count whole → entry_of R whole (row whole i) ≡ e i
    unfolding entry_of
    entry_back i h =
        let a : R.canon (row whole i).id ≡ (e i).id = ap (λ q. R.canon q.id) (read i h) ∙ id_is i (below i h) in
        let b : image_of whole (row whole i) ≡ (e i).image = ap (image_of whole) (read i h) ∙ image_back i (index i (below i h)) in
        λ j. record { id = a j; image = b j }

    pub layout_entries : entries R whole ≡ es
    layout_entries =
        let n : length (entries R whole) ≡ count whole = entries-length R whole (count whole) (row whole) in
        ext_get_or no_entry (entries R whole) es (n ∙ layout_count)
        (λ i h. entries_at R whole (count whole) (row whole) i (omega arith) ∙ entry_back i (omega arith))

pub layout_reads_back : (R : IdRules) → Lawful R → LayoutReadsBack R
layout_reads_back R L es rs body lay good short =
    let within : length (bundle rs body) < 256 ^ 8 = omega (arith, short) in
    let a = layout_accepted es rs body lay R L good within short in
    record {
      accepted = a;
      checked = (check_exact R (bundle rs body)).counted a ∙ ap (λ n. record { number = 0; place = 0; count = n }) (layout_count es rs body lay R L good within);
      entries_back = layout_entries es rs body lay R L good within;
    }
