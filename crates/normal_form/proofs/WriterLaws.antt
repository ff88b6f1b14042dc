-- The bundle writer over records that were examined. Assumes nothing.
use Prim.Native.Nat.{ℕ, ◌≤◌}
use mathlib.Core.Path.{◌≡◌, refl, sym, ap, ap₂, ◌∙◌}
use mathlib.Core.List.{List}
use native.Mathlib.Omega.{arith}
use lib.ListN.{length, take}
use Rattle.wire.specs.Stop.{go, ◌⨾◌, over, output}
use Rattle.wire.specs.Refusals.{number_of, stop_by}
use Rattle.wire.specs.declared.Refusal.{Refusal}
use Rattle.wire.proofs.StopLaws.{⨾-go}
use Rattle.wire.proofs.TabLaws.{length_tab}
use Rattle.entry_id.specs.IdRules.{IdRules}
use Rattle.bundle.specs.Entry.{Entry, entries_of}
use Rattle.bundle.specs.Records.{rows_of, records_stop}
use Rattle.bundle.specs.Layout.{packed_length, encode}
use Rattle.bundle.specs.Normal.{room_stop, answer}
use Rattle.bundle.specs.Writer.{entries_given, write_stop, write, written_to}
use Rattle.bundle.specs.declared.EntryRecord.{EntryRecord}
use Rattle.bundle.specs.declared.Written.{Written}
use Rattle.bundle_reader.specs.Slots.{Judged}
use Rattle.bundle_reader.proofs.RefusalLaws.{refuses}
use Rattle.normal_form.specs.Code.{values, first_given, listed}
use Rattle.normal_form.specs.declared.Entry.{Entry as Held}
use Rattle.normal_form.proofs.GivenLaws.{listed_front, given_is}
use Rattle.normal_form.proofs.NormaliseLaws.{refused_answer, refused_output}

module _ (R : IdRules) (records : List EntryRecord) (ids images : List ℕ) where
  abbrev n : ℕ
  n = length records

  -- 3 to 8
  module _ (r : Refusal) (e : stop_by r ≡ records_stop R ids (length images) n records) where
    stops : (room : ℕ) → stop_by r ≡ write_stop R n records ids images room
    unfolding write_stop
    stops room = refuses r (records_stop R ids (length images) n records) (room_stop (packed_length (entries_given R n records ids images)) room) e

    pub write_refused : (room : ℕ) → ◌≡◌ {A = Written} (record { number = number_of r.reason; place = r.place; length = 0 }) (write R n records ids images room)
    unfolding write
    write_refused room = refused_answer r (write_stop R n records ids images room) (packed_length (entries_given R n records ids images)) (stops room)

    pub written_refused : (out : List ℕ) → out ≡ written_to R n records ids images out
    unfolding written_to
    written_refused out = refused_output r (write_stop R n records ids images (length out)) (encode (entries_given R n records ids images)) out (stops (length out))

  -- none of them
  module _ (z : go ≡ records_stop R ids (length images) n records) (forms : List (List ℕ)) (j : Judged R ids records forms) where
    records-given : first_given n images records forms ≡ entries_given R n records ids images
    records-given = given_is R images ids records forms (rows_of ids records) (λ k h. refl) j.ids_are

    length-given : length (entries_given R n records ids images) ≡ n
    unfolding entries_of
    length-given = length_tab n _

    -- the entries of the records, in the first places of a list
    pub listed-values : (es : List Held) (tail : List Entry) (count room : ℕ) → 64 ≤ room → count ≡ listed records forms room → values es ≡ over (first_given (listed records forms room) images records forms) tail
        → values (take count es) ≡ entries_given R n records ids images
    listed-values es tail count room fits e h =
        let all : count ≡ n = omega (arith, e, fits, j.few, j.ids_room) in
        listed_front es tail count _ (length-given ∙ sym all)
        (h ∙ ap (λ f. over f tail) (ap (λ m. first_given m images records forms) (sym e ∙ all) ∙ records-given))

    module _ (es : List Entry) (q : es ≡ entries_given R n records ids images) where
      goes : (room : ℕ) → room_stop (packed_length es) room ≡ write_stop R n records ids images room
      unfolding write_stop
      goes room = ap (λ x. room_stop (packed_length x) room) q ∙ sym (ap (λ t. t ⨾ room_stop (packed_length (entries_given R n records ids images)) room) (sym z) ∙ ⨾-go (room_stop (packed_length (entries_given R n records ids images)) room))

      pub accepted-answer : (room : ℕ) → answer (room_stop (packed_length es) room) (packed_length es) ≡ write R n records ids images room
      unfolding write
      accepted-answer room = ap₂ answer (goes room) (ap packed_length q)

      pub accepted-bytes : (out : List ℕ) → output (room_stop (packed_length es) (length out)) (encode es) out ≡ written_to R n records ids images out
      unfolding written_to
      accepted-bytes out = ap₂ (λ t b. output t b out) (goes (length out)) (ap encode q)
