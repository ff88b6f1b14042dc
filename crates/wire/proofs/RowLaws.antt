-- Laws of items put to a list that may be too short. Assumes nothing.
use Prim.Native.Nat.{ℕ, suc, ◌+◌, ◌≤◌, ◌<◌}
use native.Mathlib.Nat.{add-zero, zero-add}
use native.Mathlib.Omega.{arith}
use mathlib.Core.Path.{◌≡◌, refl, sym, ap, ◌∙◌}
use mathlib.Core.List.{List, [], ◌∷◌, ◌++◌}
use lib.ListN.{length, set, drop, length-append}
use lib.Seq.{sets, length-sets, sets-eq, set_out}
use borrow.Author.Tests.{le-leb, lt-leb}
use Rattle.wire.specs.Stop.{over}
use Rattle.wire.specs.Rows.{up_to, Added}
use Rattle.wire.proofs.Bools.{by_lt}

pub up_to_in : (room n : ℕ) → n ≤ room → up_to room n ≡ n
unfolding up_to
up_to_in room n h = simp (le-leb _ _ h)

pub up_to_out : (room n : ℕ) → room < n → up_to room n ≡ room + 1
unfolding up_to
up_to_out room n h = simp (lt-leb _ _ h)

-- one more than the room is as far as it goes
pub up_to_self : (room n : ℕ) → n ≤ room + 1 → n ≡ up_to room n
up_to_self room n h = by_lt room n (λ l. let e : n ≡ room + 1 = omega arith in e ∙ sym (up_to_out room n l)) (λ l. sym (up_to_in room n l))

up_to_le : (room n : ℕ) → up_to room n ≤ room + 1
up_to_le room n = by_lt room n (λ l. rw (up_to_out room n l) (omega arith)) (λ l. rw (up_to_in room n l) (omega arith))

module _ {A : Type 0} where
  sets-append : (l : List A) (i : ℕ) (xs ys : List A) → sets l i (xs ++ ys) ≡ sets (sets l i xs) (i + length xs) ys
  sets-append l i [] ys = rw (add-zero i)
  sets-append l i (x ∷ xs) ys =
      let e : suc i + length xs ≡ i + suc (length xs) = omega arith in
      sets-append (set l i x) (suc i) xs ys ∙ ap (λ n. sets (sets (set l i x) (suc i) xs) n ys) e

  sets_out : (l : List A) (i : ℕ) (xs : List A) → length l ≤ i → sets l i xs ≡ l
  sets_out l i [] h = refl
  sets_out l i (x ∷ xs) h = rw (set_out l i x h) (sets_out l (suc i) xs (omega arith))

  module _ (room : ℕ) (out : List A) (k : ℕ) where
    pub added_none : k ≤ room + 1 → Added room out k [] k out
    added_none h = record { next_is = up_to_self room k h ∙ ap (up_to room) (sym (add-zero k)); list_is = refl }

    module _ (xs : List A) (m : ℕ) (after : List A) (a : Added room out k xs m after) where
      pub added_le : m ≤ room + 1
      added_le = rw a.next_is (up_to_le room (k + length xs))

      pub added_length : length after ≡ length out
      added_length = ap length a.list_is ∙ length-sets out k xs

      -- all were put, where the count is within the room of a list that has it
      pub added_in : m ≤ room → m ≡ k + length xs
      added_in h =
          by_lt room (k + length xs)
          (λ l. absurd (omega (arith, a.next_is, up_to_out room (k + length xs) l)))
          (λ l. a.next_is ∙ up_to_in room (k + length xs) l)

      -- and then more
      pub added_more : (ys : List A) (n : ℕ) (last : List A) → length out ≤ room → Added room after m ys n last → Added room out k (xs ++ ys) n last
      added_more ys n last r b =
          let w : length (xs ++ ys) ≡ length xs + length ys = length-append xs ys in
          by_lt room (k + length xs)
          (λ h.
          let q : m ≡ room + 1 = a.next_is ∙ up_to_out _ _ h in
          record {
            next_is = b.next_is ∙ up_to_out room (m + length ys) (omega arith) ∙ sym (up_to_out room (k + length (xs ++ ys)) (omega arith));
            list_is = b.list_is ∙ sets_out after m ys (omega (arith, added_length)) ∙ a.list_is
                ∙ sym (sets-append out k xs ys ∙ sets_out (sets out k xs) (k + length xs) ys (omega (arith, length-sets out k xs)));
          })
          (λ h.
          let q : m ≡ k + length xs = a.next_is ∙ up_to_in _ _ h in
          record {
            next_is = b.next_is ∙ ap (up_to room) (omega arith);
            list_is = b.list_is ∙ rw (q, a.list_is) (sym (sets-append out k xs ys));
          })

  -- one item, put; left out where the list has no such index
  pub added_one : (room : ℕ) (out : List A) (k : ℕ) (x : A) → k ≤ room → Added room out k (x ∷ []) (k + 1) (set out k x)
  added_one room out k x h = record { next_is = up_to_self room (k + 1) (omega arith); list_is = refl }

  pub added_counted : (room : ℕ) (out : List A) (k : ℕ) (x : A) → k ≤ room → length out ≤ k → Added room out k (x ∷ []) (k + 1) out
  added_counted room out k x h l = record { next_is = up_to_self room (k + 1) (omega arith); list_is = sym (set_out out k x l) }

  pub added_past : (room : ℕ) (out : List A) (k : ℕ) (x : A) → k ≡ room + 1 → length out ≤ k → Added room out k (x ∷ []) k out
  added_past room out k x e l = record { next_is = e ∙ sym (up_to_out room (k + 1) (omega arith)); list_is = sym (set_out out k x l) }

  -- from the start of a list that has room for all
  pub added_over : (out xs : List A) (m : ℕ) (after : List A) → Added (length out) out 0 xs m after → length xs ≤ length out → after ≡ over xs out
  unfolding over
  added_over out xs m after a h = a.list_is ∙ sets-eq xs out 0 (omega arith) ∙ ap (λ n. xs ++ drop n out) (zero-add (length xs))
