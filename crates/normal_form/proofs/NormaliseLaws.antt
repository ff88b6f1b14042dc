-- Normalising a bundle that was examined. Assumes nothing.
use Prim.Native.Nat.{ℕ, ◌<◌, ◌≤◌}
use native.Mathlib.Omega.{arith}
use mathlib.Core.Path.{◌≡◌, refl, sym, ap, ap₂, ◌∙◌}
use mathlib.Core.List.{List}
use lib.ListN.{length, take, replicate}
use lib.Seq.{length-take-le, get_or-take}
use Rattle.wire.specs.Order.{sort_by}
use Rattle.wire.specs.Stop.{Stop, go, ◌⨾◌, over, output}
use Rattle.std.specs.Prelude.{Result, Ok, IfOk}
use Rattle.wire.specs.Refusals.{number_of, stop_by, stop_of}
use Rattle.wire.specs.declared.Refusal.{Refusal}
use Rattle.wire.proofs.SortLaws.{sort_length}
use Rattle.wire.proofs.StopLaws.{⨾-go, unrefused-stop, output-stop}
use Rattle.wire.proofs.TabLaws.{length_tab}
use Rattle.entry_id.specs.IdRules.{IdRules}
use Rattle.bundle.specs.Table.{count, row}
use Rattle.bundle.specs.Check.{bundle_stop}
use Rattle.bundle.specs.Entry.{Entry, entries, entries_of}
use Rattle.bundle.specs.Records.{no_record, record_at, row_of, rows_of}
use Rattle.bundle.specs.Layout.{packed_length, encode}
use Rattle.bundle.specs.Normal.{by_id, room_stop, answer, normal, normal_length, normalise_stop, normalise, normalised}
use Rattle.bundle.specs.declared.EntryRecord.{EntryRecord}
use Rattle.bundle.specs.declared.Written.{Written}
use Rattle.bundle.proofs.AcceptLaws.{accepted-go}
use Rattle.bundle.proofs.NormalLaws.{sort_packed_length}
use Rattle.bundle_reader.specs.Examined.{form, forms_of, row_held, rows_in, filled as filled_by}
use Rattle.bundle_reader.specs.Slots.{Examination}
use Rattle.bundle_reader.proofs.FilledLaws.{length-filled}
use Rattle.bundle_reader.proofs.ExamineLaws.{examine_says}
use Rattle.bundle_reader.specs.declared.Examined.{Examined}
use Rattle.bundle_reader.proofs.RefusalLaws.{number_suc, refuses}
use Rattle.normal_form.specs.Code.{values, first_given, listed, Read}
use Rattle.normal_form.specs.declared.Entry.{Entry as Held}
use Rattle.normal_form.proofs.GivenLaws.{listed_front, given_is}

-- a bundle that was examined, and is not refused
pub read : (R : IdRules) (s : List ℕ) (ids₀ ids : List (List ℕ)) (e : Examined) → go ≡ bundle_stop R s
    → e ≡ record { count = count s; rows = rows_in s (count s) } → ids ≡ filled_by ids₀ (forms_of R s) (form R (row s)) → length ids₀ ≡ 64 → Read R s e ids
read R s ids₀ ids e z v a l = record {
  says = examine_says R s ids₀ ids e z v a l;
  rows_room = ap (λ (x : Examined). length x.rows) v ∙ length-filled (replicate 64 no_record) (count s) (row_held s);
}

-- the same, by what examining returned
pub read_ok : (R : IdRules) (s : List ℕ) (ids₀ ids : List (List ℕ)) (r : Result Examined Refusal) (e : Examined) → r ≡ Ok e → stop_of r ≡ bundle_stop R s
    → IfOk r (λ x. x ≡ record { count = count s; rows = rows_in s (count s) }) → ids ≡ filled_by ids₀ (forms_of R s) (form R (row s)) → length ids₀ ≡ 64 → Read R s e ids
read_ok R s ids₀ ids r e is z v a l = read R s ids₀ ids e (rw is at z) (rw is at v) a l

-- what is returned by a call that a refusal stops, and its output
pub refused_answer : (r : Refusal) (t : Stop) (len : ℕ) → stop_by r ≡ t → ◌≡◌ {A = Written} (record { number = number_of r.reason; place = r.place; length = 0 }) (answer t len)
unfolding answer
refused_answer r t len e =
    let k = number_suc r.reason in
    let z = unrefused-stop (stop_by r) len k.0 k.1 in
    rw (sym e) (rw z refl)

pub refused_output : (r : Refusal) (t : Stop) (bytes out : List ℕ) → stop_by r ≡ t → out ≡ output t bytes out
refused_output r t bytes out e = let k = number_suc r.reason in rw (sym e) (sym (output-stop (stop_by r) bytes out k.0 k.1))

module _ (R : IdRules) (s : List ℕ) where
  -- 1 to 8 and 21
  module _ (r : Refusal) (e : stop_by r ≡ bundle_stop R s) where
    pub normal_refused : (room : ℕ) → ◌≡◌ {A = Written} (record { number = number_of r.reason; place = r.place; length = 0 }) (normalise R s room)
    unfolding normalise normalise_stop
    normal_refused room = refused_answer r (normalise_stop R s room) (normal_length R s) (refuses r (bundle_stop R s) (room_stop (normal_length R s) room) e)

    pub normalised_refused : (out : List ℕ) → out ≡ normalised R s out
    unfolding normalised normalise_stop
    normalised_refused out = refused_output r (normalise_stop R s (length out)) (normal R s) out (refuses r (bundle_stop R s) (room_stop (normal_length R s) (length out)) e)

  -- accepted
  module _ (e : Examined) (ids : List (List ℕ)) (r : Read R s e ids) where
    abbrev x : Examination R s e ids
    x = r.says

    abbrev records : List EntryRecord
    records = take e.count e.rows

    pub counted : length records ≡ e.count
    counted = length-take-le e.count e.rows (omega (arith, x.few, r.rows_room))

    named : (k : ℕ) → k < length records → rows_of s records k ≡ row s k
    unfolding rows_of record_at
    named k h = let l : k < e.count = omega (arith, counted) in ap (row_of s) (get_or-take e.count e.rows k no_record l) ∙ x.rows_are k l

    examined-given : first_given e.count s records ids ≡ entries R s
    examined-given =
        ap (λ n. first_given n s records ids) (sym counted)
        ∙ given_is R s s records ids (row s) named (λ k h. x.ids_are k (omega (arith, counted)))
        ∙ ap (λ k. entries_of R s k (row s)) (counted ∙ x.count_is)

    length-entries : length (entries R s) ≡ e.count
    unfolding entries_of
    length-entries = length_tab (count s) _ ∙ sym x.count_is

    pub room_for : (n : ℕ) → (count s ≤ 64 → count s ≤ n) → e.count ≤ n
    room_for n h = omega (arith, x.few, x.count_is, h (omega (arith, x.few, x.count_is)))

    -- its entries in order, in the first places of a list
    pub sorted-values : (es : List Held) (tail : List Entry) (room : ℕ) → e.count ≤ room → values es ≡ over (sort_by by_id (first_given (listed records ids room) s records ids)) tail
        → values (take e.count es) ≡ sort_by by_id (entries R s)
    sorted-values es tail room fits h =
        let all : listed records ids room ≡ e.count = omega (arith, fits, counted, x.few, x.ids_room) in
        listed_front es tail e.count (sort_by by_id (entries R s)) (sort_length by_id (entries R s) ∙ length-entries)
        (h ∙ ap (λ f. over (sort_by by_id f) tail) (ap (λ n. first_given n s records ids) all ∙ examined-given))

    module _ (es : List Entry) (q : es ≡ sort_by by_id (entries R s)) where
      length_is : packed_length es ≡ normal_length R s
      unfolding normal_length
      length_is = ap packed_length q ∙ sort_packed_length (entries R s)

      goes : (room : ℕ) → room_stop (packed_length es) room ≡ normalise_stop R s room
      unfolding normalise_stop
      goes room = ap (λ k. room_stop k room) length_is ∙ sym (ap (λ t. t ⨾ room_stop (normal_length R s) room) (accepted-go R s x.sound) ∙ ⨾-go (room_stop (normal_length R s) room))

      pub accepted-answer : (room : ℕ) → answer (room_stop (packed_length es) room) (packed_length es) ≡ normalise R s room
      unfolding normalise
      accepted-answer room = ap₂ answer (goes room) length_is

      pub accepted-bytes : (out : List ℕ) → output (room_stop (packed_length es) (length out)) (encode es) out ≡ normalised R s out
      unfolding normalised normal
      accepted-bytes out = ap₂ (λ t b. output t b out) (goes (length out)) (ap encode q)
