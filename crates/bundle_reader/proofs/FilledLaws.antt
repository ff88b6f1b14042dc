-- Places that were filled. Assumes nothing.
use Prim.Native.Nat.{ℕ, zero, suc, ◌+◌, ◌≤◌, ◌<◌}
use native.Mathlib.Omega.{arith}
use native.Mathlib.Numerals.{add-one}
use mathlib.Core.Path.{◌≡◌, refl, ap, ap₂, ◌∙◌}
use mathlib.Core.List.{List}
use borrow.Author.Count.{below_more}
use lib.ListN.{length, get_or, take, set, length-set}
use lib.Seq.{get_or-set_same, get_or-set_other, get_or-take, length-take-le}
use Rattle.bundle_reader.specs.Examined.{filled}

module _ {A : Type 0} where
  pub filled-none : (l : List A) (f : ℕ → A) → l ≡ filled l 0 f
  unfolding filled
  filled-none l f = refl

  pub length-filled : (l : List A) (m : ℕ) (f : ℕ → A) → length (filled l m f) ≡ length l
  unfolding filled
  length-filled l zero f = refl
  length-filled l (suc m) f = length-set (filled l m f) m (f m) ∙ length-filled l m f

  pub filled_at : (l : List A) (m : ℕ) (f : ℕ → A) (d : A) → m ≤ length l → (k : ℕ) → k < m → get_or (filled l m f) k d ≡ f k
  unfolding filled
  filled_at l zero f d h k q = absurd (omega arith)
  filled_at l (suc m) f d h k q =
      below_more (λ j. get_or (set (filled l m f) m (f m)) j d ≡ f j) m
      (λ j p. get_or-set_other (filled l m f) m j (f m) d (λ (z : j ≡ m). omega arith) ∙ filled_at l m f d (omega arith) j p)
      (get_or-set_same (filled l m f) m (f m) d (omega (arith, length-filled l m f)))
      k (omega arith)

  pub filled-same : (l : List A) (m n : ℕ) (f g : ℕ → A) → m ≡ n → ((k : ℕ) → k < n → f k ≡ g k) → filled l m f ≡ filled l n g
  unfolding filled
  filled-same l m n f g e h = ap (λ z. filled l z f) e ∙ same n h
    where
      same : (n : ℕ) → ((k : ℕ) → k < n → f k ≡ g k) → filled l n f ≡ filled l n g
      same zero h = refl
      same (suc n) h = ap₂ (λ z x. set z n x) (same n (λ k l. h k (omega arith))) (h n (omega arith))

  pub filled_more : (l : List A) (i : ℕ) (f : ℕ → A) (z : List A) (x : A) → z ≡ filled l i f → x ≡ f i → set z i x ≡ filled l (i + 1) f
  unfolding filled
  filled_more l i f z x p q = ap₂ (λ y w. set y i w) p q ∙ rw (add-one i)

  -- the places that were filled
  module _ (l : List A) (n : ℕ) (f : ℕ → A) (z : List A) (e : z ≡ filled l n f) (room : n ≤ length l) where
    pub front-length : length (take n z) ≡ n
    front-length = length-take-le n z (omega (arith, ap length e, length-filled l n f))

    pub front_at : (d : A) (k : ℕ) → k < n → get_or (take n z) k d ≡ f k
    front_at d k h = get_or-take n z k d h ∙ ap (λ y. get_or y k d) e ∙ filled_at l n f d room k h
