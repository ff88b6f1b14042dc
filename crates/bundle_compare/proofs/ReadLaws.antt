-- A bundle that is read to be compared. Assumes nothing.
use Prim.Native.Nat.{ℕ, ◌≤◌}
use native.Mathlib.Omega.{arith}
use mathlib.Core.Path.{◌≡◌, sym, ap, ◌∙◌}
use mathlib.Core.List.{List}
use lib.Dec.{T}
use lib.ListN.{length, take, length-take}
use Rattle.wire.specs.Order.{sort_by, rising_by}
use Rattle.wire.specs.Stop.{Stop, over}
use Rattle.wire.proofs.SortLaws.{distinct-rising}
use Rattle.std.specs.Prelude.{Result, Ok, IfOk}
use Rattle.wire.specs.Refusals.{number_of, stop_by, stop_of}
use Rattle.wire.specs.declared.Refusal.{Refusal}
use Rattle.entry_id.specs.Rules.{id_rules, rules_of}
use Rattle.entry_id.specs.declared.Reading.TheVariants.{General}
use Rattle.entry_id.proofs.RuleLaws.{id_rules_lawful}
use Rattle.bundle.specs.Check.{bundle_stop}
use Rattle.bundle.specs.Entry.{Entry, entries}
use Rattle.bundle.specs.Normal.{by_id}
use Rattle.bundle.proofs.NormalLaws.{accepted_writable}
use Rattle.bundle.proofs.ReportLaws.{short-number, input_accepted}
use Rattle.bundle.specs.Table.{count, row}
use Rattle.bundle_reader.specs.Examined.{filled, form, forms_of, rows_in}
use Rattle.bundle_reader.specs.declared.Examined.{Examined}
use Rattle.bundle_reader.proofs.IdLaws.{general_is}
use Rattle.bundle.specs.Differences.{input_stop}
use Rattle.normal_form.specs.Code.{values, first_given, listed, Short, Read}
use Rattle.normal_form.specs.declared.Entry.{Entry as Held}
use Rattle.normal_form.proofs.GivenLaws.{sorted_short}
use Rattle.bundle_compare.specs.Code.{Sorted}
use Rattle.normal_form.proofs.NormaliseLaws.{read_ok, counted, room_for, sorted-values}

-- one of at most 32 KiB, by the general reading
module _ (s : List ℕ) (h : length s ≤ 32768) where
  pub read-refused : (r : Refusal) → stop_by r ≡ bundle_stop (rules_of General) s → number_of r.reason ≡ (input_stop id_rules s).number
  read-refused r e = let stopped = rw general_is at e in ap (λ (t : Stop). t.number) stopped ∙ sym (short-number id_rules s h)

  module _ (ids₀ ids : List (List ℕ)) (result : Result Examined Refusal) (e : Examined) (is : result ≡ Ok e) (stops : stop_of result ≡ bundle_stop (rules_of General) s)
      (value : IfOk result (λ x. x ≡ record { count = count s; rows = rows_in s (count s) })) (after : ids ≡ filled ids₀ (forms_of (rules_of General) s) (form (rules_of General) (row s))) (room : length ids₀ ≡ 64)
    where
      held : Read id_rules s e ids
      held =
          let general = rw general_is at stops in
          let made = rw general_is at after in
          read_ok id_rules s ids₀ ids result e is general value made room

      pub rows_few : e.count ≤ 64
      rows_few = held.says.few

      pub rows_all : e.count ≡ length (take e.count e.rows)
      rows_all = sym (counted id_rules s e ids held)

      -- its entries in order, in the first places of a list
      pub read-sorted : (all : List Held) (tail : List Entry) (places : ℕ) → (count s ≤ 64 → count s ≤ places) → length all ≡ places
          → values all ≡ over (sort_by by_id (first_given (listed (take e.count e.rows) ids places) s (take e.count e.rows) ids)) tail
          → (e.count ≤ length all) × Sorted s (take e.count all)
      read-sorted all tail places enough same q =
          let goes = ap stop_of is in
          let general = rw general_is at stops in
          let fits = room_for id_rules s e ids held places enough in (
            omega (arith, fits, same),
            record {
              goes = short-number id_rules s h ∙ ap (λ (t : Stop). t.number) (sym general ∙ goes);
              few = omega (arith, length-take e.count all, held.says.few);
              are = sorted-values id_rules s e ids held all tail places fits q;
            },
          )

-- the entries of a bundle that is not refused, in order
module _ (s : List ℕ) (es : List Held) (r : Sorted s es) where
  pub read-short : Short es
  read-short = sorted_short id_rules id_rules_lawful _ _ _ _ r.are

  pub read-rising : T (rising_by by_id (values es))
  read-rising = rw r.are (distinct-rising by_id (entries id_rules s) (accepted_writable id_rules id_rules_lawful s (input_accepted id_rules s r.goes).1).distinct)
