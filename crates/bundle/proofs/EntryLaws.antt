-- The entries of rows, by index, and that they can be written. Assumes nothing.
use Prim.Native.Nat.{ℕ, ◌+◌, ◌<◌, ◌≤◌}
use native.Mathlib.Omega.{arith}
use mathlib.Core.Path.{◌≡◌, sym, ap, ◌∙◌}
use mathlib.Core.Bool.{Bool, false}
use mathlib.Core.List.{List, Memᴰ}
use lib.Dec.{ltb}
use lib.ListN.{length, get_or, drop, length-drop}
use lib.Seq.{length-take-le}
use borrow.Author.Tests.{ltb-true, ltb-false}
use Rattle.wire.proofs.Bools.{by_bool, clash}
use Rattle.wire.proofs.ListLaws.{member_at}
use Rattle.wire.proofs.SortLaws.{distinct_of}
use Rattle.entry_id.specs.IdRules.{IdRules, Lawful}
use Rattle.bundle.specs.Table.{Row}
use Rattle.bundle.specs.Check.{bad_id, mean_same, mix}
use Rattle.bundle.specs.Entry.{Entry, no_entry, image_of, entry_of, entries_of}
use Rattle.bundle.specs.Accepted.{Meant}
use Rattle.bundle.specs.Layout.{Writable}
use Rattle.wire.proofs.TabLaws.{length_tab, get_d_tab}

pub length_image_of : (s : List ℕ) (r : Row) → r.offset + r.size ≤ length s → length (image_of s r) ≡ r.size
unfolding image_of
length_image_of s r h = length-take-le r.size (drop r.offset s) (omega (arith, length-drop r.offset s))

module _ (R : IdRules) (s : List ℕ) (n : ℕ) (rows : ℕ → Row) where
  pub entries-length : length (entries_of R s n rows) ≡ n
  unfolding entries_of
  entries-length = length_tab n _

  pub entries_at : (i : ℕ) → i < n → get_or (entries_of R s n rows) i no_entry ≡ entry_of R s (rows i)
  unfolding entries_of
  entries_at i h = get_d_tab n _ i no_entry h

  -- a member is one of the rows' entries
  pub entry_of_lem : (e : Entry) → Memᴰ e (entries_of R s n rows) → (i : ℕ) × (i < n) × (e ≡ entry_of R s (rows i))
  entry_of_lem e m =
      let p = member_at (entries_of R s n rows) no_entry e m in
      let h : p.0 < n = omega (arith, entries-length, p.1) in
      (p.0, h, p.2 ∙ entries_at p.0 h)

  -- of rows that 5, 7 and 8 do not refuse
  module _ (L : Lawful R) (few : n ≤ 64) (a : Meant R n rows) where
    abbrev canon_of : ℕ → List ℕ
    canon_of i = R.canon (rows i).id

    -- two of them with two IDs, in either order
    unrelated : (related : List ℕ → List ℕ → Bool) → ((x y : List ℕ) → related (R.canon x) (R.canon y) ≡ related (R.canon y) (R.canon x))
        → ((i : ℕ) → i < n → (j : ℕ) → j < i → related (canon_of j) (canon_of i) ≡ false)
        → (i j : ℕ) → i < n → j < n → (canon_of i ≡ canon_of j → ⊥) → related (canon_of i) (canon_of j) ≡ false
    unrelated related sy h i j hi hj apart =
        by_bool (ltb i j)
        (λ t. h j hj i (ltb-true i j t))
        (λ f.
        by_bool (ltb j i)
        (λ t. sy (rows i).id (rows j).id ∙ h i hi j (ltb-true j i t))
        (λ g. absurd (apart (ap canon_of (let e : i ≡ j = omega (arith, ltb-false i j f, ltb-false j i g) in e)))))

    apart_at : (j i : ℕ) → j < i → i < n → canon_of j ≡ canon_of i → ⊥
    unfolding mean_same bad_id
    apart_at j i l h e =
        clash (R.same_meaning (canon_of j) (canon_of i))
        (ap (R.same_meaning (canon_of j)) (sym e) ∙ L.same_self (rows j).id (a.named j (omega arith)))
        (a.once i h j l)

    pub entries_writable : Writable R (entries_of R s n rows)
    unfolding entry_of bad_id mean_same mix
    entries_writable = record {
      few = omega (arith, entries-length);
      canonical = λ e m. let p = entry_of_lem e m in rw p.2 (L.canon_again (rows p.0).id);
      some = λ e m. let p = entry_of_lem e m in rw p.2 (a.named p.0 p.1);
      distinct = distinct_of (λ e. e.id) (entries_of R s n rows) no_entry (λ j i l h q.
          let hi : i < n = omega (arith, entries-length) in
          apart_at j i l hi (rw (entries_at i hi, entries_at j (omega arith)) at q));
      once = λ e f m k d. let p = entry_of_lem e m in let q = entry_of_lem f k in
          rw (p.2, q.2) (unrelated R.same_meaning L.same_sym a.once p.0 q.0 p.1 q.1 (rw (p.2, q.2) at d));
      unmixed = λ e f m k d. let p = entry_of_lem e m in let q = entry_of_lem f k in
          rw (p.2, q.2) (unrelated R.mixed L.mixed_sym a.unmixed p.0 q.0 p.1 q.1 (rw (p.2, q.2) at d));
    }
