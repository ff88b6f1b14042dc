-- Tests on lists, sums over them, their bytes joined, what their elements give joined, and lists without repeats. Definitions only.
use Rattle.std.specs.Prelude.{ℕ, ◌+◌, zero, suc, Bool, true, false, ◌&&◌, ◌||◌, cond, List, [], ◌∷◌, ◌++◌, eqb}

-- every element passes the test
unfoldable pub every : {A : Type 0} → (A → Bool) → List A → Bool
every p [] = true
every p (x ∷ l) = p x && every p l

-- some element passes the test
unfoldable pub any : {A : Type 0} → (A → Bool) → List A → Bool
any p [] = false
any p (x ∷ l) = p x || any p l

-- two lists agree, element by element
unfoldable pub agree : {A : Type 0} → (A → A → Bool) → List A → List A → Bool
agree t [] [] = true
agree t [] (y ∷ b) = false
agree t (x ∷ a) [] = false
agree t (x ∷ a) (y ∷ b) = t x y && agree t a b

-- one number for each element, added up
unfoldable pub total : {A : Type 0} → (A → ℕ) → List A → ℕ
total f [] = 0
total f (x ∷ l) = f x + total f l

-- the bytes of each element, one after another
unfoldable pub joined : {A : Type 0} → (A → List ℕ) → List A → List ℕ
joined f [] = []
joined f (x ∷ l) = f x ++ joined f l

-- what each element gives, one after another
unfoldable pub flattened : {A B : Type 0} → (A → List B) → List A → List B
flattened f [] = []
flattened f (x ∷ l) = f x ++ flattened f l

-- f 0, .., f (n - 1)
unfoldable pub tab {ℓ} : {A : Type ℓ} → ℕ → (ℕ → A) → List A
tab zero f = []
tab (suc n) f = f zero ∷ tab n (λ i. f (suc i))

-- each number of a list once
unfoldable pub distinct : List ℕ → List ℕ
distinct [] = []
distinct (x ∷ l) = cond (any (eqb x) l) (distinct l) (x ∷ distinct l)
