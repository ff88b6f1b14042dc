-- Laws of a part written over. Assumes nothing.
use Prim.Native.Nat.{ℕ, ◌+◌, ◌-◌, ◌≤◌, ◌<◌}
use native.Mathlib.Nat.{add_assoc}
use native.Mathlib.Omega.{arith}
use mathlib.Core.Path.{◌≡◌, refl, sym, ap, ap₂, ◌∙◌, subst}
use mathlib.Core.List.{List, [], ◌++◌, append_assoc, append-nil}
use lib.ListN.{length, take, drop, get_or, set, length-append, length-take, length-drop, take-append-drop}
use lib.Dec.{leb}
use lib.Seq.{length-take-le, take_at, drop_at, drop-append-add, paste, take-paste, drop-paste, drop-drop, take-add, take-length, get_or-set_same, get_or-set_other}
use borrow.Author.Count.{below_more}
use borrow.Author.Tests.{le-leb, lt-leb, leb-true, leb-false}
use Rattle.wire.specs.Bytes.{overwrite}
use Rattle.wire.proofs.Bools.{by_bool}

pub overwrite_in : (out : List ℕ) (at : ℕ) (src : List ℕ) → at + length src ≤ length out → overwrite out at src ≡ take at out ++ src ++ drop (at + length src) out
unfolding overwrite
overwrite_in out at src h = rw (le-leb _ _ h)

pub overwrite-not : (out : List ℕ) (at : ℕ) (src : List ℕ) → length out < at + length src → overwrite out at src ≡ out
unfolding overwrite
overwrite-not out at src h = rw (lt-leb _ _ h)

pub length-overwrite : (out : List ℕ) (at : ℕ) (src : List ℕ) → length (overwrite out at src) ≡ length out
length-overwrite out at src =
    by_bool (leb (at + length src) (length out))
    (λ t. let h = leb-true _ _ t in rw (overwrite_in out at src h) (simp (length-append, length-take, length-drop) (omega arith)))
    (λ f. rw (overwrite-not out at src (leb-false _ _ f)))

pub overwrite_nil : (out : List ℕ) (at : ℕ) → overwrite out at [] ≡ out
overwrite_nil out at =
    let e : at + 0 ≡ at = omega arith in
    by_bool (leb (at + 0) (length out))
    (λ t. overwrite_in out at [] (leb-true _ _ t) ∙ rw (append-nil (take at out), e) (take-append-drop at out))
    (λ f. overwrite-not out at [] (leb-false _ _ f))

-- one part after another is both at once
module _ (out : List ℕ) (at : ℕ) (a b : List ℕ) (room : at + length a + length b ≤ length out) where
  front : length (take at out ++ a) ≡ at + length a
  front = omega (arith, length-append (take at out) a, length-take-le at out (omega arith))

  pub overwrite-next : overwrite (overwrite out at a) (at + length a) b ≡ overwrite out at (a ++ b)
  overwrite-next =
      let d = drop (at + length a) out in
      let t : take (at + length a) (take at out ++ a ++ d) ≡ take at out ++ a = take_at (take at out ++ a) d (at + length a) front in
      let e : at + length a + length b ≡ at + length (a ++ b) = omega (arith, length-append a b) in
      let r : drop (at + length a + length b) (take at out ++ a ++ d) ≡ drop (at + length (a ++ b)) out =
      ap (λ n. drop (n + length b) (take at out ++ a ++ d)) (sym front) ∙ drop-append-add (take at out ++ a) d (length b) ∙ drop-drop (length b) (at + length a) out ∙ ap (λ n. drop n out) e in
      overwrite_in (overwrite out at a) (at + length a) b (omega (arith, length-overwrite out at a))
      ∙ rw (overwrite_in out at a (omega arith), overwrite_in out at (a ++ b) (omega (arith, length-append a b)), t, r, append_assoc (take at out) a b)

pub overwrite_then : (out : List ℕ) (at next : ℕ) (a b : List ℕ) → at + length a ≡ next → next + length b ≤ length out → overwrite (overwrite out at a) next b ≡ overwrite out at (a ++ b)
overwrite_then out at next a b e h = ap (λ k. overwrite (overwrite out at a) k b) (sym e) ∙ overwrite-next out at a b (omega arith)

-- ---- two parts that lie apart can be written in either order

over_at : (p v r y : List ℕ) (at : ℕ) → length p ≡ at → length y ≡ length v → overwrite (p ++ (v ++ r)) at y ≡ p ++ (y ++ r)
over_at p v r y at e f =
    let t : take at (p ++ (v ++ r)) ≡ p = take_at p (v ++ r) at e in
    let g : drop (at + length y) (p ++ (v ++ r)) ≡ r = ap (drop (at + length y)) (sym (append_assoc p v r)) ∙ drop_at (p ++ v) r (at + length y) (length-append p v ∙ omega arith) in
    overwrite_in (p ++ (v ++ r)) at y (omega (arith, length-append p (v ++ r), length-append v r))
    ∙ ap₂ (λ a b. a ++ y ++ b) t g ∙ append_assoc p y r

apart_in : (p u q v r x y : List ℕ) (a b : ℕ) → length p ≡ a → length x ≡ length u → length p + length u + length q ≡ b → length y ≡ length v
    → overwrite (overwrite (p ++ (u ++ (q ++ (v ++ r)))) b y) a x ≡ overwrite (overwrite (p ++ (u ++ (q ++ (v ++ r)))) a x) b y
apart_in p u q v r x y a b ea eu eb ev =
    let far : (z : List ℕ) → length z ≡ length u → overwrite (p ++ (z ++ (q ++ (v ++ r)))) b y ≡ p ++ (z ++ (q ++ (y ++ r))) =
    λ z e. ap (λ l. overwrite l b y) (sym (deep p z q (v ++ r))) ∙ over_at ((p ++ z) ++ q) v r y b (length-append (p ++ z) q ∙ omega (arith, length-append p z)) ev ∙ deep p z q (y ++ r) in
    ap (λ l. overwrite l a x) (far u refl) ∙ over_at p u (q ++ (y ++ r)) x a ea eu
    ∙ sym (ap (λ l. overwrite l b y) (over_at p u (q ++ (v ++ r)) x a ea eu) ∙ far x eu)
  where
    deep : (p z q t : List ℕ) → ((p ++ z) ++ q) ++ t ≡ p ++ (z ++ (q ++ t))
    deep p z q t = simp append_assoc

pub overwrite-apart : (d x y : List ℕ) (a b : ℕ) → a + length x ≤ b → b + length y ≤ length d → overwrite (overwrite d b y) a x ≡ overwrite (overwrite d a x) b y
overwrite-apart d x y a b h k =
    let n : ℕ = length x in
    let m : ℕ = b - (a + n) in
    let d₁ : List ℕ = drop a d in
    let d₂ : List ℕ = drop n d₁ in
    let d₃ : List ℕ = drop m d₂ in
    let u : List ℕ = take n d₁ in
    let q : List ℕ = take m d₂ in
    let v : List ℕ = take (length y) d₃ in
    let l₁ = length-drop a d in
    let l₂ = length-drop n d₁ in
    let l₃ = length-drop m d₂ in
    let e : take a d ++ (u ++ (q ++ (v ++ drop (length y) d₃))) ≡ d =
    ap (λ l. take a d ++ (u ++ (q ++ l))) (take-append-drop (length y) d₃) ∙ ap (λ l. take a d ++ (u ++ l)) (take-append-drop m d₂) ∙ ap (λ l. take a d ++ l) (take-append-drop n d₁) ∙ take-append-drop a d in
    let c₀ : length (take a d) ≡ a = length-take-le a d (omega arith) in
    let c₁ : length u ≡ n = length-take-le n d₁ (omega arith) in
    let c₂ : length q ≡ m = length-take-le m d₂ (omega arith) in
    let c₃ : length v ≡ length y = length-take-le (length y) d₃ (omega arith) in
    subst (λ l. overwrite (overwrite l b y) a x ≡ overwrite (overwrite l a x) b y) e (apart_in (take a d) u q v (drop (length y) d₃) x y a b c₀ (sym c₁) (omega arith) (sym c₃))

-- all of src was copied
pub paste_all : (out : List ℕ) (at : ℕ) (src : List ℕ) → at + length src ≤ length out → paste out at src (length src) ≡ overwrite out at src
unfolding overwrite
paste_all out at src h = simp (le-leb _ _ h, take-length)

-- i bytes were copied, and n more
pub paste_part : (d : List ℕ) (at : ℕ) (s : List ℕ) (i n : ℕ) → at ≤ length d → i ≤ length s
    → paste (paste d at s i) (at + i) (drop i s) n ≡ paste d at s (i + n)
paste_part d at s i n hd hs =
    let e : drop (at + i + n) (paste d at s i) ≡ drop (at + (i + n)) d =
    sym (drop-drop n (at + i) (paste d at s i)) ∙ ap (drop n) (drop-paste d at s i hd hs) ∙ drop-drop n (at + i) d ∙ ap (λ (k : ℕ). drop k d) (add_assoc at i n)
    in
    rw (take-paste d at s i hd hs, e, take-add i n s, append_assoc (take at d) (take i s) (take n (drop i s)))

-- a store one past what was stored: what holds of each element below k holds of each below k + 1
pub filled : (buf src : List ℕ) (from k : ℕ) → k < length buf → ((q : ℕ) → q < k → get_or buf q 0 ≡ get_or src (from + q) 0)
    → (q : ℕ) → q < k + 1 → get_or (set buf k (get_or src (from + k) 0)) q 0 ≡ get_or src (from + q) 0
filled buf src from k h p =
    below_more _ k (λ q l. get_or-set_other buf k q (get_or src (from + k) 0) 0 (λ (e : q ≡ k). omega arith) ∙ p q l) (get_or-set_same buf k (get_or src (from + k) 0) 0 h)
