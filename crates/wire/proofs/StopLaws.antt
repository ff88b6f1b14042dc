-- Laws of ordered refusals. Assumes nothing.
use Prim.Native.Nat.{ℕ, zero, suc, ◌<◌, ◌≤◌}
use native.Mathlib.Omega.{arith}
use mathlib.Core.Path.{◌≡◌, refl, sym, ap, ◌∙◌}
use mathlib.Core.Bool.{Bool, true, false}
use mathlib.Core.List.{List, ◌++◌}
use lib.ListN.{length, drop, length-append, length-drop}
use borrow.Author.Tests.{lt-ltb, le-ltb}
use Rattle.wire.specs.First.{first, any_below}
use Rattle.wire.specs.Lists.{tab}
use Rattle.wire.specs.Stop.{Stop, go, stop, ◌⨾◌, stop_when, stop_if, stop_at, earlier, unrefused, over, output}
use Rattle.wire.proofs.Bools.{by_bool}
use Rattle.wire.proofs.FirstLaws.{first-same, any_same, any_none, none_any, any_some}
use Rattle.wire.proofs.TabLaws.{length_tab}

pub ⨾-go : (b : Stop) → go ⨾ b ≡ b
unfolding ◌⨾◌
⨾-go b = refl

pub ⨾-stop : (a b : Stop) (k : ℕ) → a.number ≡ suc k → a ⨾ b ≡ a
unfolding ◌⨾◌
⨾-stop a b k e = rw (e, ◌⨾◌)

pub ⨾-next : (a b : Stop) → a.number ≡ 0 → a ⨾ b ≡ b
unfolding ◌⨾◌
⨾-next a b e = rw (e, ◌⨾◌)

-- the first that stops stops the whole
pub ⨾-first : (a b : Stop) (k : ℕ) → 0 < k → a.number ≡ k → a ⨾ b ≡ a
⨾-first a b zero h e = absurd (omega arith)
⨾-first a b (suc k) h e = ⨾-stop a b k e

pub ⨾-assoc : (a b c : Stop) → (a ⨾ b) ⨾ c ≡ a ⨾ b ⨾ c
⨾-assoc a b c = cases a.number refl
  where
    cases : (k : ℕ) → a.number ≡ k → (a ⨾ b) ⨾ c ≡ a ⨾ b ⨾ c
    cases zero e = ap (λ z. z ⨾ c) (⨾-next a b e) ∙ sym (⨾-next a (b ⨾ c) e)
    cases (suc k) e = ap (λ z. z ⨾ c) (⨾-stop a b k e) ∙ ⨾-stop a c k e ∙ sym (⨾-stop a (b ⨾ c) k e)

pub ⨾-both : (a b : Stop) → a ≡ go → b ≡ go → a ⨾ b ≡ go
⨾-both a b p q = rw (p, q) (⨾-go go)

pub ⨾-left : (a b : Stop) → (a ⨾ b).number ≡ 0 → a.number ≡ 0
unfolding ◌⨾◌
⨾-left a b e = cases a.number refl
  where
    cases : (k : ℕ) → a.number ≡ k → a.number ≡ 0
    cases zero q = q
    cases (suc k) q = ap (λ s. s.number) (sym (⨾-stop a b k q)) ∙ e

pub ⨾-right : (a b : Stop) → (a ⨾ b).number ≡ 0 → b.number ≡ 0
⨾-right a b e = ap (λ s. s.number) (sym (⨾-next a b (⨾-left a b e))) ∙ e

pub stop_if-go : (k : ℕ) (b : Bool) → b ≡ false → stop_if k b ≡ go
unfolding stop_if stop_when
stop_if-go k b e = rw e

pub stop_if_no : (k : ℕ) (b : Bool) → (stop_if (suc k) b).number ≡ 0 → b ≡ false
unfolding stop_if stop_when
stop_if_no k true e = absurd (omega arith)
stop_if_no k false e = refl

pub stop_if_yes : (k : ℕ) (b : Bool) → (stop_if (suc k) b).number ≡ suc k → b ≡ true
unfolding stop_if stop_when
stop_if_yes k true e = refl
stop_if_yes k false e = absurd (omega arith)

-- the number says which of two tests refuses
pub stop_if-first : (j k : ℕ) (a b : Bool) → (j ≡ k → ⊥) → (stop_if (suc j) a ⨾ stop_if (suc k) b).number ≡ suc j → a ≡ true
unfolding ◌⨾◌ stop_if stop_when
stop_if-first j k true b h e = refl
stop_if-first j k false true h e = absurd (h (omega arith))
stop_if-first j k false false h e = absurd (omega arith)

pub stop_if_second : (j k : ℕ) (a b : Bool) → (j ≡ k → ⊥) → (stop_if (suc j) a ⨾ stop_if (suc k) b).number ≡ suc k → (a ≡ false) × (b ≡ true)
unfolding ◌⨾◌ stop_if stop_when
stop_if_second j k true b h e = absurd (h (omega arith))
stop_if_second j k false true h e = (refl, refl)
stop_if_second j k false false h e = absurd (omega arith)

pub stop_at_go : (k n : ℕ) (p : ℕ → Bool) → ((i : ℕ) → i < n → p i ≡ false) → stop_at k n p ≡ go
unfolding stop_at stop_when
stop_at_go k n p h = rw (any_none n p h)

pub stop_at_no : (k n : ℕ) (p : ℕ → Bool) → (stop_at (suc k) n p).number ≡ 0 → (i : ℕ) → i < n → p i ≡ false
unfolding stop_at stop_when
stop_at_no k n p e i h =
    by_bool (any_below n p)
    (λ t. absurd (let z : suc k ≡ 0 = rw t at e in omega arith))
    (λ f. none_any n p f i h)

pub stop_at_same : (k n : ℕ) (p q : ℕ → Bool) → ((i : ℕ) → i < n → p i ≡ q i) → stop_at k n p ≡ stop_at k n q
unfolding stop_at
stop_at_same k n p q h = rw (any_same n p q h, first-same n p q h)

-- for code that has searched: r is the lowest index, or n
pub stop_at_found : (k n : ℕ) (p : ℕ → Bool) (r : ℕ) → r ≡ first n p → r < n → stop_at k n p ≡ stop k r
unfolding stop_at stop_when any_below
stop_at_found k n p r e h = rw (← e, lt-ltb r n h)

pub stop_at_clear : (k n : ℕ) (p : ℕ → Bool) (r : ℕ) → r ≡ first n p → n ≤ r → stop_at k n p ≡ go
unfolding stop_at stop_when any_below
stop_at_clear k n p r e h = rw (← e, le-ltb r n h)

pub earlier-same : {A : Type 0} (related : A → A → Bool) (n : ℕ) (f g : ℕ → A) → ((i : ℕ) → i < n → f i ≡ g i) → (i : ℕ) → i < n → earlier related f i ≡ earlier related g i
unfolding earlier
earlier-same related n f g h i l = any_same i (λ j. related (f j) (f i)) (λ j. related (g j) (g i)) (λ j m. rw (h j (omega arith), h i l))

pub earlier-none : {A : Type 0} (related : A → A → Bool) (f : ℕ → A) (i : ℕ) → ((j : ℕ) → j < i → related (f j) (f i) ≡ false) → earlier related f i ≡ false
unfolding earlier
earlier-none related f i h = any_none i (λ j. related (f j) (f i)) h

pub none-earlier : {A : Type 0} (related : A → A → Bool) (f : ℕ → A) (i : ℕ) → earlier related f i ≡ false → (j : ℕ) → j < i → related (f j) (f i) ≡ false
unfolding earlier
none-earlier related f i e j h = none_any i (λ k. related (f k) (f i)) e j h

pub earlier_some : {A : Type 0} (related : A → A → Bool) (f : ℕ → A) (i j : ℕ) → j < i → related (f j) (f i) ≡ true → earlier related f i ≡ true
unfolding earlier
earlier_some related f i j h e = any_some i (λ k. related (f k) (f i)) j h e

-- ---- what a refused call returns and leaves

pub unrefused-go : (t : Stop) (v : ℕ) → t.number ≡ 0 → unrefused t v ≡ v
unfolding unrefused
unrefused-go t v e = rw (e, unrefused)

pub unrefused-stop : (t : Stop) (v k : ℕ) → t.number ≡ suc k → unrefused t v ≡ 0
unfolding unrefused
unrefused-stop t v k e = rw (e, unrefused)

module _ {A : Type 0} where
  pub output-go : (t : Stop) (items out : List A) → t.number ≡ 0 → output t items out ≡ over items out
  unfolding output
  output-go t items out e = rw (e, output)

  pub output-stop : (t : Stop) (items out : List A) (k : ℕ) → t.number ≡ suc k → output t items out ≡ out
  unfolding output
  output-stop t items out k e = rw (e, output)

  pub over_tab : (n : ℕ) (f : ℕ → A) (out : List A) → over (tab n f) out ≡ tab n f ++ drop n out
  unfolding over
  over_tab n f out = ap (λ k. tab n f ++ drop k out) (length_tab n f)

  pub length_over : (items out : List A) → length items ≤ length out → length (over items out) ≡ length out
  unfolding over
  length_over items out h = rw (length-append items (drop (length items) out), length-drop (length items) out) (omega arith)
