-- Laws of lists made from functions. Assumes nothing.
use Prim.Native.Nat.{ℕ, zero, suc, ◌+◌, ◌<◌, ◌≤◌}
use native.Mathlib.Omega.{arith}
use native.Mathlib.Numerals.{add-one}
use mathlib.Core.Path.{◌≡◌, refl, ap, ap₂, ◌∙◌}
use mathlib.Core.List.{List, [], ◌∷◌, ◌++◌, map}
use lib.ListN.{length, get_or, take}
use Rattle.wire.specs.Lists.{tab}

pub length_tab : {A : Type 0} (n : ℕ) (f : ℕ → A) → length (tab n f) ≡ n
unfolding tab
length_tab zero f = refl
length_tab (suc n) f = ap suc (length_tab n (λ i. f (suc i)))

pub get_d_tab : {A : Type 0} (n : ℕ) (f : ℕ → A) (i : ℕ) (d : A) → i < n → get_or (tab n f) i d ≡ f i
unfolding tab
get_d_tab zero f i d h = absurd (omega arith)
get_d_tab (suc n) f zero d h = refl
get_d_tab (suc n) f (suc i) d h = get_d_tab n (λ j. f (suc j)) i d (omega arith)

-- one more at the end
pub tab_snoc : {A : Type 0} (n : ℕ) (f : ℕ → A) → tab (suc n) f ≡ tab n f ++ (f n ∷ [])
unfolding tab
tab_snoc zero f = refl
tab_snoc (suc n) f = ap (λ l. f zero ∷ l) (tab_snoc n (λ i. f (suc i)))

pub tab_next : {A : Type 0} (n : ℕ) (f : ℕ → A) → tab (n + 1) f ≡ tab n f ++ (f n ∷ [])
tab_next n f = ap (λ k. tab k f) (add-one n) ∙ tab_snoc n f

pub tab_same : {A : Type 0} (n : ℕ) (f g : ℕ → A) → ((i : ℕ) → i < n → f i ≡ g i) → tab n f ≡ tab n g
unfolding tab
tab_same zero f g h = refl
tab_same (suc n) f g h = ap₂ ◌∷◌ (h zero (omega arith)) (tab_same n (λ i. f (suc i)) (λ i. g (suc i)) (λ i l. h (suc i) (omega arith)))

pub map_tab : {A B : Type 0} (f : A → B) (n : ℕ) (g : ℕ → A) → map f (tab n g) ≡ tab n (λ i. f (g i))
unfolding tab
map_tab f zero g = refl
map_tab f (suc n) g = ap (λ r. f (g zero) ∷ r) (map_tab f n (λ i. g (suc i)))

-- the first n of a list
pub tab_take : {A B : Type 0} (f : A → B) (d : A) (n : ℕ) (l : List A) → n ≤ length l → tab n (λ k. f (get_or l k d)) ≡ map f (take n l)
unfolding tab
tab_take f d zero l h = refl
tab_take f d (suc n) [] h = absurd (omega arith)
tab_take f d (suc n) (x ∷ l) h = ap (λ r. f x ∷ r) (tab_take f d n l (omega arith))

pub take_tab : {A : Type 0} (i n : ℕ) (f : ℕ → A) → i ≤ n → take i (tab n f) ≡ tab i f
unfolding tab
take_tab zero n f h = refl
take_tab (suc i) zero f h = absurd (omega arith)
take_tab (suc i) (suc n) f h = ap (λ l. f zero ∷ l) (take_tab i n (λ k. f (suc k)) (omega arith))
