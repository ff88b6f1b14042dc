-- What a pick for each of several device names returns, from its slots: so each pick is computed once, and not once for each bit of the word.
-- Assumes nothing.
use Prim.Native.Nat.{ℕ, zero, suc}
use mathlib.Core.Path.{◌≡◌, refl, ap, ◌∙◌}
use mathlib.Core.Bool.{Bool, ◌&&◌, ◌||◌}
use mathlib.Core.List.{List}
use lib.Dec.{eqb}
use lib.ListN.{length, get_or}
use Rattle.wire.specs.Bits.{bits_below, count_below}
use Rattle.wire.specs.First.{any_below, first}
use Rattle.wire.specs.Lists.{any, tab}
use Rattle.wire.specs.Stop.{Stop, unrefused}
use Rattle.wire.proofs.BitLaws.{bits_same, count_same}
use Rattle.wire.proofs.FirstLaws.{any_suc}
use Rattle.entry_id.specs.Rules.{id_rules}
use Rattle.bundle.specs.Each.{slot_of, took, pick_at, taken, each_stop, pick_each}
use Rattle.bundle.specs.declared.PickedEach.{PickedEach}

-- some slot is that of a pick that took entry i
unfoldable pub slots_took : List (List ℕ) → ℕ → Bool
slots_took slots i = any (λ slot. eqb (get_or slot 0 0) 0 && eqb (get_or slot 1 0) i) slots

-- what is returned, where t refuses the call or nothing does, n names are given and these are their slots
unfoldable pub answer_of : Stop → ℕ → List (List ℕ) → PickedEach
answer_of t n slots = record {
  number = t.number;
  place = t.place;
  slots = unrefused t n;
  word = unrefused t (bits_below 64 (slots_took slots));
  taken = unrefused t (count_below 64 (slots_took slots));
}

any_tab : {A : Type 0} (p : A → Bool) (n : ℕ) (f : ℕ → A) → any_below n (λ k. p (f k)) ≡ any p (tab n f)
unfolding any tab any_below first
any_tab p zero f = refl
any_tab p (suc n) f = any_suc n (λ k. p (f k)) ∙ ap (λ t. p (f zero) || t) (any_tab p n (λ k. f (suc k)))

module _ (s buffer : List ℕ) (names : List (List ℕ)) (room : ℕ) where
  abbrev slot_at : ℕ → List ℕ
  slot_at k = slot_of (pick_at id_rules s buffer names k)

  abbrev slots : List (List ℕ)
  slots = tab (length names) slot_at

  abbrev is_taken : ℕ → Bool
  is_taken = taken id_rules s buffer names

  unfoldable pub by_slots : PickedEach
  by_slots = answer_of (each_stop id_rules s buffer names room) (length names) slots

  is_taken_lem : (i : ℕ) → is_taken i ≡ slots_took slots i
  unfolding taken took slot_of slots_took
  is_taken_lem i = any_tab (λ slot. eqb (get_or slot 0 0) 0 && eqb (get_or slot 1 0) i) (length names) slot_at

  pub answered : (r : PickedEach) → by_slots ≡ r → pick_each id_rules s buffer names room ≡ r
  unfolding pick_each by_slots answer_of
  answered r e = rw (bits_same 64 is_taken (slots_took slots) (λ i h. is_taken_lem i), count_same 64 is_taken (slots_took slots) (λ i h. is_taken_lem i)) e
