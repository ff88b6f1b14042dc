-- Where the check stops, and what it then leaves. Assumes nothing.
use Prim.Native.Nat.{ℕ, ◌+◌, ◌<◌, ◌≤◌}
use native.Mathlib.Omega.{arith}
use mathlib.Core.Path.{◌≡◌, sym, ap, ap₂, ◌∙◌}
use mathlib.Core.Logic.{◌↔◌}
use mathlib.Core.Bool.{Bool, true, false}
use mathlib.Core.List.{List}
use Rattle.std.specs.Prelude.{Some, None, Result, Ok, Err, IfOk}
use lib.Dec.{ltb}
use lib.ListN.{length, take}
use borrow.Author.Tests.{leb-true, le-leb, lt-ltb, ltb-false}
use Rattle.wire.specs.First.{first}
use Rattle.wire.specs.Stop.{Stop, go, stop, ◌⨾◌, stop_if, stop_when, stop_at, earlier}
use Rattle.wire.specs.Refusals.{stop_by, stop_of}
use Rattle.wire.specs.declared.Refusal.{Refusal}
use Rattle.wire.proofs.Bools.{by_bool, and_both, both_and, not_no, yes_not}
use Rattle.wire.proofs.FirstLaws.{first_le, first-none, first-same, any_same}
use Rattle.wire.proofs.StopLaws.{⨾-next, ⨾-assoc, ⨾-left, ⨾-right, stop_if_no, stop_at_no, stop_at_same, earlier-same, unrefused-go}
use Rattle.entry_id.specs.Canonical.{same_text, mixed_text}
use Rattle.entry_id.specs.IdRules.{IdRules}
use Rattle.entry_id.specs.Rules.{rules_of}
use Rattle.entry_id.specs.declared.Reading.{Reading}
use Rattle.bundle.specs.Table.{Row, count, row, table_end}
use Rattle.bundle.specs.Check.{bad_id, outside, overlaps, overlap_stop, mean_same, mix, head_stop, table_stop, rows_stop, bundle_stop, check}
use Rattle.bundle.specs.Accepted.{Framed}
use Rattle.bundle.specs.Records.{record_at, rows_of, bad_part, records_stop}
use Rattle.bundle.specs.Results.{checked_of}
use Rattle.bundle.specs.declared.EntryRecord.{EntryRecord}
use Rattle.bundle.proofs.CheckLaws.{inside}
use Rattle.bundle.proofs.AcceptLaws.{accepted, rows_stop-same}
use Rattle.bundle.proofs.Theorems.{framed_exact}
use Rattle.bundle_reader.specs.Examined.{filled, id_at, form, made, forms_of, forms_of_records}
use Rattle.bundle_reader.specs.Slots.{first_found}
use Rattle.bundle_reader.proofs.RefusalLaws.{refuses, refuses_at, passes, refused-zero, found_stop, found_go}
use Rattle.bundle_reader.proofs.FilledLaws.{filled-same, front-length, front_at}
use Rattle.bundle_reader.proofs.IdLaws.{same_by, mixed_by}

-- ---- an ID part of 1 to 256 bytes lies in its buffer

pub record PartFits (room : ℕ) (r : EntryRecord) : Type 0 where
  pub some : 1 ≤ r.id_len
  pub short : r.id_len ≤ 256
  pub inside : r.id_start + r.id_len ≤ room

pub part_fits : (room : ℕ) (r : EntryRecord) → bad_part room r ≡ false ↔ PartFits room r
unfolding bad_part
part_fits room r = (
  (λ e.
      let a = and_both _ _ (not_no _ e) in
      let b = and_both _ _ a.0 in
      record { some = leb-true _ _ b.0; short = leb-true _ _ b.1; inside = leb-true _ _ a.1 }),
  (λ f. yes_not _ (both_and _ _ (both_and _ _ (le-leb _ _ f.some) (le-leb _ _ f.short)) (le-leb _ _ f.inside))),
)

pub part_bad : (room : ℕ) (r : EntryRecord) → (PartFits room r → ⊥) → bad_part room r ≡ true
part_bad room r h = by_bool (bad_part room r) (λ t. t) (λ f. absurd (h ((part_fits room r).0 f)))

pub stop-many : (R : IdRules) (ids : List ℕ) (len n : ℕ) (rows : List EntryRecord) → 64 < n → records_stop R ids len n rows ≡ stop 3 0
unfolding records_stop stop_if stop_when ◌⨾◌
stop-many R ids len n rows h = rw (lt-ltb 64 n h)

-- ---- the answer

pub checked_is : (R : IdRules) (s : List ℕ) (r : Result ℕ Refusal) → stop_of r ≡ bundle_stop R s → IfOk r (λ n. n ≡ count s) → checked_of r ≡ check R s
unfolding check
checked_is R s (Ok n) e q =
    ap₂ (λ (t : Stop) (m : ℕ). record { number = t.number; place = t.place; count = m }) e (q ∙ sym (unrefused-go (bundle_stop R s) (count s) (ap (λ t. t.number) (sym e))))
checked_is R s (Err r) e q =
    ap₂ (λ (t : Stop) (m : ℕ). record { number = t.number; place = t.place; count = m }) e (sym (refused-zero r (bundle_stop R s) (count s) e))

-- ---- 5 to 8 of n rows, in the order in which they are tried

module _ (reading : Reading) (rows : ℕ → Row) (n : ℕ) where
  abbrev R : IdRules
  R = rules_of reading

  abbrev ids_stop : Stop
  ids_stop = stop_at 5 n (λ k. bad_id R (rows k))

  all_named : go ≡ ids_stop → (k : ℕ) → k < n → bad_id R (rows k) ≡ false
  all_named five = stop_at_no 4 n _ (ap (λ t. t.number) (sym five))

  pub named_all : go ≡ ids_stop → first n (λ k. bad_id R (rows k)) ≡ n
  named_all five = first-none n _ (all_named five)

module _ (reading : Reading) (between : Stop) (rows : ℕ → Row) (n end len : ℕ) where
  abbrev out : ℕ → Bool
  out k = outside end len (rows k).offset (rows k).size

  pub stop_5 : (r : Refusal) → stop_by r ≡ ids_stop reading rows n → stop_by r ≡ rows_stop (rules_of reading) between end len n rows
  unfolding rows_stop
  stop_5 r e = refuses r _ _ e

  module _ (five : go ≡ ids_stop reading rows n) where
    pub stop_6 : (i : ℕ) → Some i ≡ first_found n out → stop 6 i ≡ rows_stop (rules_of reading) between end len n rows
    unfolding rows_stop
    stop_6 i e = passes _ _ _ five (refuses_at 5 i _ _ (found_stop 6 n out i e))

    module _ (six : None ≡ first_found n out) where
      pub all_inside : (k : ℕ) → k < n → (rows k).offset + (rows k).size ≤ len
      all_inside k h = ((inside end len _ _).0 (stop_at_no 5 n _ (ap (λ t. t.number) (sym (found_go 6 n out six))) k h)).within

      pub stop_between : (r : Refusal) → stop_by r ≡ between → stop_by r ≡ rows_stop (rules_of reading) between end len n rows
      unfolding rows_stop
      stop_between r e = passes _ _ _ five (passes _ _ _ (found_go 6 n out six) (refuses r _ _ e))

      -- 7 and 8, of their canonical IDs
      module _ (ids₀ ids : List (List ℕ)) (e : ids ≡ filled ids₀ n (form (rules_of reading) rows)) (room : n ≤ length ids₀) where
        held : (k : ℕ) → k < n → id_at (take n ids) k ≡ (rules_of reading).canon (rows k).id
        unfolding form
        held k h = front_at ids₀ n (form (rules_of reading) rows) ids e room _ k h

        same_7 : (i : ℕ) → i < n → earlier same_text (id_at (take n ids)) i ≡ earlier (mean_same (rules_of reading)) rows i
        unfolding earlier mean_same bad_id
        same_7 i h = any_same i _ _ (λ j l. ap₂ same_text (held j (omega arith)) (held i h) ∙ same_by reading _ _ (all_named reading rows n five j (omega arith)) (all_named reading rows n five i h))

        same_8 : (i : ℕ) → i < n → earlier mixed_text (id_at (take n ids)) i ≡ earlier (mix (rules_of reading)) rows i
        unfolding earlier mix bad_id
        same_8 i h = any_same i _ _ (λ j l. ap₂ mixed_text (held j (omega arith)) (held i h) ∙ mixed_by reading _ _ (all_named reading rows n five j (omega arith)) (all_named reading rows n five i h))

        pub stop_7 : (t : Stop) → go ≡ between → t ≡ stop_at 7 (length (take n ids)) (earlier same_text (id_at (take n ids))) ⨾ stop_at 8 (length (take n ids)) (earlier mixed_text (id_at (take n ids))) → t ≡ rows_stop (rules_of reading) between end len n rows
        unfolding rows_stop
        stop_7 t b q =
            let size : length (take n ids) ≡ n = front-length ids₀ n (form (rules_of reading) rows) ids e room in
            passes _ _ _ five (passes _ _ _ (found_go 6 n out six) (passes _ _ _ b
            (q ∙ ap₂ (λ x y. x ⨾ y)
            (ap (λ m. stop_at 7 m (earlier same_text (id_at (take n ids)))) size ∙ stop_at_same 7 n _ _ same_7)
            (ap (λ m. stop_at 8 m (earlier mixed_text (id_at (take n ids)))) size ∙ stop_at_same 8 n _ _ same_8))))

-- ---- a list of records that stands for n rows

module _ (R : IdRules) (s : List ℕ) (list : List EntryRecord) (n : ℕ) (rows : ℕ → Row) (size : length list ≡ n) (are : (k : ℕ) → k < n → rows_of s list k ≡ rows k) where
  pub same_rows : (end : ℕ) → rows_stop R (overlap_stop (length list) (rows_of s list)) end (length s) (length list) (rows_of s list) ≡ rows_stop R (overlap_stop n rows) end (length s) n rows
  unfolding overlap_stop
  same_rows end =
      ap (λ m. rows_stop R (stop_at 21 m (earlier overlaps (rows_of s list))) end (length s) m (rows_of s list)) size
      ∙ ap (λ t. rows_stop R t end (length s) n (rows_of s list)) (stop_at_same 21 n _ _ (earlier-same overlaps n (rows_of s list) rows are))
      ∙ rows_stop-same R (stop_at 21 n (earlier overlaps rows)) end (length s) n (rows_of s list) rows are

  pub same_forms : (ids₀ : List (List ℕ)) → filled ids₀ (first (length list) (λ k. bad_id R (rows_of s list k))) (form R (rows_of s list)) ≡ filled ids₀ (first n (λ k. bad_id R (rows k))) (form R rows)
  unfolding form
  same_forms ids₀ =
      filled-same ids₀ _ _ _ _ (ap (λ m. first m (λ k. bad_id R (rows_of s list k))) size ∙ first-same n _ _ (λ k h. ap (bad_id R) (are k h)))
      (λ k h. ap (λ r. R.canon r.id) (are k (omega (arith, first_le n (λ k. bad_id R (rows k))))))

-- ---- 1 to 4 of a bundle

module _ (s : List ℕ) (R : IdRules) where
  abbrev rest : Stop
  rest = rows_stop R (overlap_stop (count s) (row s)) (table_end s) (length s) (count s) (row s)

  pub table-stops : (r : Refusal) → stop_by r ≡ head_stop s ⨾ table_stop s → (stop_by r ≡ bundle_stop R s) × (0 ≡ forms_of R s)
  unfolding bundle_stop forms_of made
  table-stops r e = (refuses r _ rest e ∙ ⨾-assoc (head_stop s) (table_stop s) rest, sym (refused-zero r _ _ e))

  module _ (e : go ≡ head_stop s ⨾ table_stop s) where
    pub table_goes : (t : Stop) → t ≡ rest → t ≡ bundle_stop R s
    unfolding bundle_stop
    table_goes t q = passes t _ rest e q ∙ ⨾-assoc (head_stop s) (table_stop s) rest

    pub table-forms : first (count s) (λ k. bad_id R (row s k)) ≡ forms_of R s
    unfolding forms_of made
    table-forms = sym (unrefused-go _ _ (ap (λ t. t.number) (sym e)))

    pub table_framed : Framed s
    table_framed = (framed_exact s).0 (ap (λ t. t.number) (sym e))

-- ---- 3 and 4 of records

module _ (ids : List ℕ) (len : ℕ) (list : List EntryRecord) (R : IdRules) where
  abbrev parts : Stop
  parts = stop_if 3 (ltb 64 (length list)) ⨾ stop_at 4 (length list) (λ k. bad_part (length ids) (record_at list k))

  abbrev rows_rest : Stop
  rows_rest = rows_stop R go 0 len (length list) (rows_of ids list)

  pub parts-stop : (r : Refusal) → stop_by r ≡ parts → (stop_by r ≡ records_stop R ids len (length list) list) × (0 ≡ forms_of_records R ids (length list) list)
  unfolding records_stop forms_of_records made
  parts-stop r e = (refuses r parts rows_rest e ∙ ⨾-assoc (stop_if 3 (ltb 64 (length list))) _ rows_rest, sym (refused-zero r parts _ e))

  module _ (e : go ≡ parts) where
    pub parts_go : (t : Stop) → t ≡ rows_rest → t ≡ records_stop R ids len (length list) list
    unfolding records_stop
    parts_go t q = passes t parts rows_rest e q ∙ ⨾-assoc (stop_if 3 (ltb 64 (length list))) _ rows_rest

    pub parts_forms : first (length list) (λ k. bad_id R (rows_of ids list k)) ≡ forms_of_records R ids (length list) list
    unfolding forms_of_records made
    parts_forms = sym (unrefused-go parts _ (ap (λ t. t.number) (sym e)))

    pub parts_few : length list ≤ 64
    parts_few = ltb-false 64 (length list) (stop_if_no 2 _ (⨾-left _ _ (ap (λ t. t.number) (sym e))))

    pub parts_in : (k : ℕ) → k < length list → (record_at list k).id_start + (record_at list k).id_len ≤ length ids
    parts_in k h = ((part_fits (length ids) (record_at list k)).0 (stop_at_no 3 _ _ (⨾-right (stop_if 3 (ltb 64 (length list))) _ (ap (λ t. t.number) (sym e))) k h)).inside

-- of an accepted bundle every form is made
pub forms_all : (R : IdRules) (s : List ℕ) → (bundle_stop R s).number ≡ 0 → forms_of R s ≡ count s
unfolding forms_of made bundle_stop
forms_all R s z =
    let h : (head_stop s).number ≡ 0 = ⨾-left (head_stop s) _ z in
    let t : (table_stop s).number ≡ 0 = ⨾-left (table_stop s) _ (⨾-right (head_stop s) _ z) in
    unrefused-go (head_stop s ⨾ table_stop s) _ (ap (λ u. u.number) (⨾-next (head_stop s) (table_stop s) h) ∙ t)
    ∙ first-none (count s) (λ i. bad_id R (row s i)) (accepted R s z).sense.meant.named

pub check_few : (R : IdRules) (s : List ℕ) → go ≡ bundle_stop R s → count s ≤ 64
check_few R s e = (accepted R s (ap (λ t. t.number) (sym e))).frame.few

-- records that are not refused are few, and of them every form is made
module _ (R : IdRules) (ids : List ℕ) (len : ℕ) (list : List EntryRecord) (e : go ≡ records_stop R ids len (length list) list) where
  parts_clear : (parts ids len list R).number ≡ 0
  unfolding records_stop
  parts_clear = ⨾-left (parts ids len list R) (rows_rest ids len list R) (ap (λ t. t.number) (⨾-assoc (stop_if 3 (ltb 64 (length list))) _ (rows_rest ids len list R) ∙ sym e))

  rest_clear : (rows_rest ids len list R).number ≡ 0
  unfolding records_stop
  rest_clear = ⨾-right (parts ids len list R) (rows_rest ids len list R) (ap (λ t. t.number) (⨾-assoc (stop_if 3 (ltb 64 (length list))) _ (rows_rest ids len list R) ∙ sym e))

  pub records_few : length list ≤ 64
  records_few = ltb-false 64 (length list) (stop_if_no 2 _ (⨾-left _ _ parts_clear))

  pub records_forms : forms_of_records R ids (length list) list ≡ length list
  unfolding forms_of_records made rows_stop
  records_forms =
      unrefused-go (parts ids len list R) _ parts_clear
      ∙ first-none (length list) (λ i. bad_id R (rows_of ids list i)) (stop_at_no 4 (length list) _ (⨾-left _ _ rest_clear))
