-- Laws of sums over lists, of bytes joined, of what elements give joined, and of members. Assumes nothing.
use Prim.Native.Nat.{ℕ, zero, suc, ◌+◌, ◌*◌, ◌<◌, ◌≤◌, zero-le}
use native.Mathlib.Omega.{arith}
use native.Mathlib.Nat.{suc-mul}
use mathlib.Core.Path.{◌≡◌, refl, sym, ap, ◌∙◌}
use mathlib.Core.Logic.{inl, inr}
use mathlib.Core.List.Memᴰ
use mathlib.Core.List.{List, [], ◌∷◌, ◌++◌, append_assoc, Memᴰ}
use lib.ListN.{length, get_or, length-append}
use Rattle.wire.specs.Lists.{total, joined, flattened}

pub total-append : {A : Type 0} (f : A → ℕ) (a b : List A) → total f (a ++ b) ≡ total f a + total f b
unfolding total
total-append f [] b = omega arith
total-append f (x ∷ a) b = omega (arith, total-append f a b)

-- of two lists whose elements have the same numbers
pub total-same : {A B : Type 0} (v : A → ℕ) (w : B → ℕ) (c : A) (d : B) (l : List A) (m : List B) → length l ≡ length m
    → ((i : ℕ) → i < length l → v (get_or l i c) ≡ w (get_or m i d)) → total v l ≡ total w m
unfolding total
total-same v w c d [] [] e h = refl
total-same v w c d [] (y ∷ m) e h = absurd (omega arith)
total-same v w c d (x ∷ l) [] e h = absurd (omega arith)
total-same v w c d (x ∷ l) (y ∷ m) e h =
    omega (arith, h zero (omega arith), total-same v w c d l m (omega arith) (λ i b. h (suc i) (omega arith)))

-- of a list whose elements have no number above m
pub total_most : {A : Type 0} (v : A → ℕ) (d : A) (m : ℕ) (l : List A) → ((i : ℕ) → i < length l → v (get_or l i d) ≤ m) → total v l ≤ length l * m
unfolding total
total_most v d m [] h = zero-le
total_most v d m (x ∷ l) h = omega (arith, suc-mul (length l) m, h zero (omega arith), total_most v d m l (λ i b. h (suc i) (omega arith)))

-- ---- bytes joined

pub joined-append : {A : Type 0} (f : A → List ℕ) (a b : List A) → joined f (a ++ b) ≡ joined f a ++ joined f b
unfolding joined
joined-append f [] b = refl
joined-append f (x ∷ a) b = ap (f x ++◌) (joined-append f a b) ∙ sym (append_assoc (f x) (joined f a) (joined f b))

pub length-joined : {A : Type 0} (f : A → List ℕ) (l : List A) → length (joined f l) ≡ total (λ x. length (f x)) l
unfolding joined total
length-joined f [] = refl
length-joined f (x ∷ l) = omega (arith, length-append (f x) (joined f l), length-joined f l)

-- ---- members

-- the index of a member
pub member_at : {A : Type 0} (l : List A) (d x : A) → Memᴰ x l → (i : ℕ) × (i < length l) × (x ≡ get_or l i d)
member_at [] d x m = absurd (Memᴰ.not-nil m)
member_at (y ∷ l) d x m =
    elim (Memᴰ.cases_cons m) [
      | inl e ↦ (zero, omega arith, e)
      | inr u ↦ let r = member_at l d x u in (suc r.0, omega (arith, r.1), r.2)
    ]

pub at_member : {A : Type 0} (l : List A) (d : A) (i : ℕ) → i < length l → Memᴰ (get_or l i d) l
at_member [] d i h = absurd (omega arith)
at_member (y ∷ l) d zero h = Memᴰ.head refl
at_member (y ∷ l) d (suc i) h = Memᴰ.tail (at_member l d i (omega arith))

-- of what elements give, joined
pub flattened_out : {A B : Type 0} (f : A → List B) (l : List A) (y : B) → Memᴰ y (flattened f l) → (x : A) × Memᴰ x l × Memᴰ y (f x)
unfolding flattened
flattened_out f [] y m = absurd (Memᴰ.not-nil m)
flattened_out f (x ∷ l) y m =
    elim (Memᴰ.append_cases (f x) m) [
      | inl u ↦ (x, Memᴰ.head refl, u)
      | inr u ↦ let r = flattened_out f l y u in (r.0, Memᴰ.tail r.1, r.2)
    ]

pub flattened_in : {A B : Type 0} (f : A → List B) (l : List A) (x : A) (y : B) → Memᴰ x l → Memᴰ y (f x) → Memᴰ y (flattened f l)
unfolding flattened
flattened_in f [] x y m u = absurd (Memᴰ.not-nil m)
flattened_in f (z ∷ l) x y m u =
    elim (Memᴰ.cases_cons m) [
      | inl e ↦ Memᴰ.append_left (flattened f l) (rw e at u)
      | inr v ↦ Memᴰ.append_right (f z) (flattened_in f l x y v u)
    ]
