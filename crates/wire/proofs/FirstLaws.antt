-- Laws of the lowest index. Assumes nothing.
use Prim.Native.Nat.{ℕ, zero, suc, ◌<◌, ◌≤◌}
use native.Mathlib.Omega.{arith}
use mathlib.Core.Path.{◌≡◌, refl, sym, ap, ◌∙◌}
use mathlib.Core.Bool.{Bool, true, false, ◌||◌}
use borrow.Author.Tests.{ltb-false, le-ltb}
use lib.Dec.{leb-suc-suc}
use Rattle.wire.specs.First.{first, any_below}
use Rattle.wire.proofs.Bools.{by_bool, clash}

pub first_yes : (n : ℕ) (p : ℕ → Bool) → p zero ≡ true → first (suc n) p ≡ zero
unfolding first
first_yes n p e = rw (e, first)

pub first_no : (n : ℕ) (p : ℕ → Bool) → p zero ≡ false → first (suc n) p ≡ suc (first n (λ i. p (suc i)))
unfolding first
first_no n p e = rw (e, first)

pub first_le : (n : ℕ) (p : ℕ → Bool) → first n p ≤ n
unfolding first
first_le zero p = omega arith
first_le (suc n) p =
    by_bool (p zero)
    (λ e. omega (arith, first_yes n p e))
    (λ e. omega (arith, first_no n p e, first_le n (λ i. p (suc i))))

-- below the lowest index the test fails
pub first-before : (n : ℕ) (p : ℕ → Bool) (i : ℕ) → i < first n p → p i ≡ false
unfolding first
first-before zero p i h = absurd (omega arith)
first-before (suc n) p zero h = by_bool (p zero) (λ e. absurd (omega (arith, first_yes n p e))) (λ e. e)
first-before (suc n) p (suc i) h =
    by_bool (p zero)
    (λ e. absurd (omega (arith, first_yes n p e)))
    (λ e. first-before n (λ j. p (suc j)) i (omega (arith, first_no n p e)))

-- at the lowest index it holds
pub first_at : (n : ℕ) (p : ℕ → Bool) → first n p < n → p (first n p) ≡ true
unfolding first
first_at zero p h = absurd (omega arith)
first_at (suc n) p h =
    by_bool (p zero)
    (λ e. rw (first_yes n p e) e)
    (λ e. rw (first_no n p e) (first_at n (λ j. p (suc j)) (omega (arith, first_no n p e))))

-- there is one lowest index
pub first_is : (n : ℕ) (p : ℕ → Bool) (r : ℕ) → r < n → p r ≡ true → ((i : ℕ) → i < r → p i ≡ false) → first n p ≡ r
first_is zero p r h t f = absurd (omega arith)
first_is (suc n) p zero h t f = first_yes n p t
first_is (suc n) p (suc r) h t f =
    first_no n p (f zero (omega arith)) ∙ ap suc (first_is n (λ i. p (suc i)) r (omega arith) t (λ i l. f (suc i) (omega arith)))

pub first-none : (n : ℕ) (p : ℕ → Bool) → ((i : ℕ) → i < n → p i ≡ false) → first n p ≡ n
unfolding first
first-none zero p f = refl
first-none (suc n) p f = first_no n p (f zero (omega arith)) ∙ ap suc (first-none n (λ i. p (suc i)) (λ i l. f (suc i) (omega arith)))

-- tests that agree below n have one lowest index
pub first-same : (n : ℕ) (p q : ℕ → Bool) → ((i : ℕ) → i < n → p i ≡ q i) → first n p ≡ first n q
unfolding first
first-same zero p q f = refl
first-same (suc n) p q f =
    by_bool (p zero)
    (λ e. first_yes n p e ∙ sym (first_yes n q (sym (f zero (omega arith)) ∙ e)))
    (λ e. first_no n p e ∙ ap suc (first-same n (λ i. p (suc i)) (λ i. q (suc i)) (λ i l. f (suc i) (omega arith))) ∙ sym (first_no n q (sym (f zero (omega arith)) ∙ e)))

pub any_same : (n : ℕ) (p q : ℕ → Bool) → ((i : ℕ) → i < n → p i ≡ q i) → any_below n p ≡ any_below n q
unfolding any_below
any_same n p q f = rw (first-same n p q f)

pub any_none : (n : ℕ) (p : ℕ → Bool) → ((i : ℕ) → i < n → p i ≡ false) → any_below n p ≡ false
unfolding any_below
any_none n p f = rw (first-none n p f) (le-ltb n n (omega arith))

pub none_any : (n : ℕ) (p : ℕ → Bool) → any_below n p ≡ false → (i : ℕ) → i < n → p i ≡ false
unfolding any_below
none_any n p e i h = first-before n p i (omega (arith, ltb-false (first n p) n e))

pub any_some : (n : ℕ) (p : ℕ → Bool) (i : ℕ) → i < n → p i ≡ true → any_below n p ≡ true
any_some n p i h e = by_bool (any_below n p) (λ t. t) (λ f. clash (p i) e (none_any n p f i h))

-- by the index 0 and those after it
pub any_suc : (n : ℕ) (p : ℕ → Bool) → any_below (suc n) p ≡ (p zero || any_below n (λ i. p (suc i)))
unfolding any_below
any_suc n p =
    by_bool (p zero)
    (λ e. rw e (any_some (suc n) p zero (omega arith) e))
    (λ e. rw (first_no n p e, e) (leb-suc-suc (suc (first n (λ i. p (suc i)))) n))
