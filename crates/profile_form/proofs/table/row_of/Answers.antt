use native.Mathlib.Omega.{arith}
use Prim.Native.Nat.{ℕ, ◌<◌}
use mathlib.Core.Path.{◌≡◌, refl, sym, ap, ◌∙◌}
use mathlib.Core.Bool.{Bool}
use mathlib.Core.List.{List}
use lib.ListN.{get_or}
use Rattle.wire.specs.Bytes.{same}
use Rattle.wire.specs.Lists.{tab}
use Rattle.wire.specs.Word.{word, word_of}
use Rattle.entry_id.specs.Canonical.{head_number}
use Rattle.entry_id.specs.Processors.{processors, names}
use Rattle.profile_form.specs.Table.{row_for, rows_for, rows_from, table, name_at, slot_of, placed, slots}
use Rattle.profile_form.proofs.TableLaws.{slot-below, slot_in, row-found, row-none}
use Rattle.profile_form.proofs.table.row_of.Goals as goal

-- `profile_form::row_of` meets its contract. Assumes nothing.
-- what the code reads
module _ (w : List ℕ) (l : List ℕ) (e : l ≡ slots) (i : ℕ) (s : i ≡ slot_of w) where
  read : get_or l i 0 ≡ get_or slots (slot_of w) 0
  read = ap (λ z. get_or z i 0) e ∙ ap (λ j. get_or slots j 0) s

  below : get_or l i 0 < 68
  below = omega (arith, read, slot-below w)

  found : (r : Bool) (n : List ℕ) → n ≡ name_at (get_or l i 0) → r ≡ same n w → r ≡ same (name_at (get_or slots (slot_of w) 0)) w
  found r n f g = g ∙ ap (λ z. same z w) (f ∙ ap name_at read)

pub bounds-slots-slot_of : goal.bounds-slots-slot_of
bounds-slots-slot_of c = omega (arith, c.slot_of.ensures, slot_in c.args.w.now)

pub overflow_cast-k : goal.overflow_cast-k
unfolding slots placed tab slot_of head_number word word_of name_at table rows_from rows_for row_for processors names
overflow_cast-k c = record { fits = omega (arith, below c.args.w.now _ refl c.slot_of.result c.slot_of.ensures) }

pub name_at-requires : goal.name_at-requires
unfolding slots placed tab slot_of head_number word word_of name_at table rows_from rows_for row_for processors names
name_at-requires c = (c.requires, below c.args.w.now _ refl c.slot_of.result c.slot_of.ensures)

pub returns-then-same_bytes : goal.returns-then-same_bytes
unfolding slots placed tab slot_of head_number word word_of name_at table rows_from rows_for row_for processors names
returns-then-same_bytes c =
    let w = c.args.w.now in
    let s = c.slot_of in
    (sym (read w _ refl s.result s.ensures ∙ row-found w (sym (found w _ refl s.result s.ensures c.same_bytes.result _ c.name_at.ensures c.same_bytes.ensures) ∙ c.if-same_bytes.true)), below w _ refl s.result s.ensures)

pub returns : goal.returns
unfolding slots placed tab slot_of head_number word word_of name_at table rows_from rows_for row_for processors names
returns c =
    let w = c.args.w.now in
    let s = c.slot_of in
    sym (row-none w (sym (found w _ refl s.result s.ensures c.same_bytes.result _ c.name_at.ensures c.same_bytes.ensures) ∙ c.if-same_bytes.false))
