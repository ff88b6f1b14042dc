-- What `examine` and `examine_records` promise, in the words of `Examination` and `Judged`. Assumes nothing.
use Prim.Native.Nat.{ℕ, ◌<◌, ◌≤◌}
use native.Mathlib.Omega.{arith}
use mathlib.Core.Path.{◌≡◌, sym, ap, ◌∙◌}
use mathlib.Core.List.{List}
use lib.ListN.{length, get_or, replicate, length-replicate}
use Rattle.wire.specs.Stop.{go}
use Rattle.entry_id.specs.IdRules.{IdRules}
use Rattle.bundle.specs.Table.{count, row}
use Rattle.bundle.specs.Check.{bundle_stop}
use Rattle.bundle.specs.Records.{no_record, record_at, rows_of, records_stop}
use Rattle.bundle.specs.declared.EntryRecord.{EntryRecord}
use Rattle.bundle.proofs.AcceptLaws.{accepted}
use Rattle.bundle_reader.specs.Examined.{filled, id_at, form, row_held, rows_in, forms_of, forms_of_records}
use Rattle.bundle_reader.specs.Slots.{Examination, Judged}
use Rattle.bundle_reader.specs.declared.Examined.{Examined}
use Rattle.bundle_reader.proofs.FilledLaws.{length-filled, filled_at}
use Rattle.bundle_reader.proofs.RowLaws.{row_meant}
use Rattle.bundle_reader.proofs.CheckLaws.{forms_all, records_few, records_forms}

module _ (R : IdRules) (s : List ℕ) (ids₀ ids : List (List ℕ)) (e : Examined) (stops : go ≡ bundle_stop R s)
    (value : e ≡ record { count = count s; rows = rows_in s (count s) }) (after : ids ≡ filled ids₀ (forms_of R s) (form R (row s))) (room : length ids₀ ≡ 64)
  where
    count_is : e.count ≡ count s
    count_is = ap (λ (x : Examined). x.count) value

    few : count s ≤ 64
    few = (accepted R s (ap (λ t. t.number) (sym stops))).frame.few

    made : forms_of R s ≡ count s
    made = forms_all R s (ap (λ t. t.number) (sym stops))

    row_at : (k : ℕ) → k < count s → record_at e.rows k ≡ row_held s k
    unfolding record_at
    row_at k h =
        ap (λ (x : Examined). get_or x.rows k no_record) value
        ∙ filled_at (replicate 64 no_record) (count s) (row_held s) no_record (omega (arith, few, length-replicate {A = EntryRecord} 64 no_record)) k h

    row_is : (k : ℕ) → k < count s → rows_of s e.rows k ≡ row s k
    unfolding rows_of
    row_is k h = row_meant s k _ (row_at k h)

    id_is : (k : ℕ) → k < count s → id_at ids k ≡ R.canon (row s k).id
    unfolding form
    id_is k h = ap (λ z. id_at z k) after ∙ filled_at ids₀ (forms_of R s) (form R (row s)) _ (omega (arith, made, few, room)) k (omega (arith, made))

    pub examine_says : Examination R s e ids
    examine_says = record {
      sound = accepted R s (ap (λ t. t.number) (sym stops));
      count_is = count_is;
      few = omega (arith, few, count_is);
      rows_are = λ k h. row_is k (omega (arith, count_is));
      ids_room = ap length after ∙ length-filled ids₀ (forms_of R s) (form R (row s)) ∙ room;
      ids_are = λ k h. id_is k (omega (arith, count_is));
    }

module _ (R : IdRules) (buffer : List ℕ) (len : ℕ) (records : List EntryRecord) (ids₀ ids : List (List ℕ)) (stops : go ≡ records_stop R buffer len (length records) records)
    (after : ids ≡ filled ids₀ (forms_of_records R buffer (length records) records) (form R (rows_of buffer records))) (room : length ids₀ ≡ 64)
  where
    all_made : forms_of_records R buffer (length records) records ≡ length records
    all_made = records_forms R buffer len records stops

    record_id : (k : ℕ) → k < length records → id_at ids k ≡ R.canon (rows_of buffer records k).id
    unfolding form
    record_id k h =
        ap (λ z. id_at z k) after
        ∙ filled_at ids₀ _ (form R (rows_of buffer records)) _ (omega (arith, all_made, records_few R buffer len records stops, room)) k (omega (arith, all_made))

    pub records_say : Judged R buffer records ids
    records_say = record {
      few = records_few R buffer len records stops;
      ids_room = ap length after ∙ length-filled ids₀ _ (form R (rows_of buffer records)) ∙ room;
      ids_are = record_id;
    }
