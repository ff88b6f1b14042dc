-- Laws of lists made index by index, and of arrays of a fixed length. Assumes nothing.
use Prim.Native.Nat.{ℕ, suc, ◌+◌, ◌-◌, ◌<◌}
use native.Mathlib.Omega.{arith}
use native.Mathlib.Numerals.{add-one}
use mathlib.Core.Path.{◌≡◌, refl, sym, ap, ◌∙◌}
use mathlib.Core.Bool.{Bool, ◌||◌}
use mathlib.Core.List.{List, [], ◌∷◌, ◌++◌, append_assoc}
use lib.ListN.{length, get_or, take, set, replicate, get_or-append}
use lib.Seq.{take_at, set_at}
use Rattle.std.specs.List.{list_any}
use Rattle.wire.specs.First.{first, any_below}
use Rattle.wire.proofs.FirstLaws.{any_suc}
use Rattle.wire.specs.Lists.{tab}
use Rattle.wire.proofs.TabLaws.{length_tab, tab_snoc}
use Rattle.offload_binary.specs.Lists.{slots}

pub tab_get_d : {A : Type 0} (l : List A) (d : A) → tab (length l) (λ i. get_or l i d) ≡ l
unfolding tab
tab_get_d [] d = refl
tab_get_d (x ∷ l) d = ap (λ m. x ∷ m) (tab_get_d l d)

-- an element passes a test, by its index
pub any_list : {A : Type 0} (p : A → Bool) (d : A) (l : List A) → any_below (length l) (λ i. p (get_or l i d)) ≡ list_any p l
unfolding any_below first
any_list p d [] = refl
any_list p d (x ∷ l) = any_suc (length l) (λ i. p (get_or (x ∷ l) i d)) ∙ ap (p x ||◌) (any_list p d l)

-- ---- slots

pub take-slots : {A : Type 0} (n : ℕ) (d : A) (l : List A) (k : ℕ) → length l ≡ k → take k (slots n d l) ≡ l
unfolding slots
take-slots n d l k e = take_at l (replicate (n - length l) d) k e

pub get_d_slots : {A : Type 0} (n : ℕ) (d : A) (l : List A) (i : ℕ) → i < length l → get_or (slots n d l) i d ≡ get_or l i d
unfolding slots
get_d_slots n d l i h = get_or-append l (replicate (n - length l) d) d i h

pub slots_tab : {A : Type 0} (n : ℕ) (d : A) (f : ℕ → A) (i : ℕ) → slots n d (tab i f) ≡ tab i f ++ replicate (n - i) d
unfolding slots
slots_tab n d f i = ap (λ k. tab i f ++ replicate (n - k) d) (length_tab i f)

-- an array filled from its start: one slot more
pub slots_next : {A : Type 0} (n : ℕ) (d : A) (f : ℕ → A) (i : ℕ) → i < n → set (slots n d (tab i f)) i (f i) ≡ slots n d (tab (i + 1) f)
slots_next n d f i h =
    let k : n - i ≡ suc (n - (i + 1)) = omega arith in
    ap (λ l. set l i (f i)) (slots_tab n d f i ∙ ap (λ x. tab i f ++ replicate x d) k)
    ∙ set_at (tab i f) d (replicate (n - (i + 1)) d) (f i) i (length_tab i f)
    ∙ sym (append_assoc (tab i f) (f i ∷ []) (replicate (n - (i + 1)) d))
    ∙ ap (λ l. l ++ replicate (n - (i + 1)) d) (sym (tab_snoc i f) ∙ ap (λ x. tab x f) (sym (add-one i)))
    ∙ sym (slots_tab n d f (i + 1))
