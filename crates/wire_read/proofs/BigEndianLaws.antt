-- Words read the greatest byte first, and the order of two byte strings by such words. Assumes nothing.
use Prim.Native.Nat.{ℕ, zero, suc, ◌+◌, ◌*◌, ◌-◌, ◌/◌, ◌%◌, ◌^◌, ◌<◌, ◌≤◌}
use native.Mathlib.Omega.{arith}
use native.Mathlib.Nat.{add-zero, mul-suc, mul_comm, mul-le-mul_left, pow-succ'}
use mathlib.Core.Path.{◌≡◌, refl, sym, ap, ◌∙◌}
use mathlib.Core.Logic.{inl, inr}
use mathlib.Core.List.{List, [], ◌∷◌}
use Rattle.std.specs.Int.{w64, swap_bytes, from_be_bytes}
use lib.Dec.{ltb, ltb→lt, lt→ltb}
use lib.ListN.{length, get_or, get_or-eq_default}
use borrow.Author.Tests.{eqb-false, ltb-true, ltb-false, lt-ltb, le-ltb}
use Rattle.wire.specs.Word.{word, bytes_of}
use Rattle.wire.specs.Bytes.{before, common}
use Rattle.wire.proofs.Bools.{by_bool, bool_ext}
use Rattle.wire.proofs.ByteLaws.{common-apart, common_get, before_in, before_end, before-not, before-over}
use Rattle.wire.proofs.WordLaws.{bytes_of_le, word_step}
use Rattle.wire_read.specs.BigEndian.{big_word}

-- ---- numbers by a first digit and the rest

-- a number whose first digit is the lower is the lower
lead : (m x y u v : ℕ) → u < m → x < y → m * x + u < m * y + v
lead m x y u v h l = omega (arith, h, mul-le-mul_left m l, mul-suc m x)

-- the digits of one number are the same
digits : (m x y u v : ℕ) → u < m → v < m → m * x + u ≡ m * y + v → (x ≡ y) × (u ≡ v)
digits m x y u v hu hv e =
    let low : ¬ (x < y) = λ l. omega (arith, e, lead m x y u v hu l) in
    let high : ¬ (y < x) = λ l. omega (arith, e, lead m y x v u hv l) in
    let z : x ≡ y = omega arith in
    (z, omega (arith, e, ap (λ d. m * d) z))

ltb_ext : (x y u v : ℕ) → (x < y → u < v) → (u < v → x < y) → ltb x y ≡ ltb u v
ltb_ext x y u v f g = bool_ext (ltb x y) (ltb u v) (λ t. lt→ltb u v (f (ltb→lt x y t))) (λ t. lt→ltb x y (g (ltb→lt u v t)))

ltb_add : (m u v : ℕ) → ltb (m + u) (m + v) ≡ ltb u v
ltb_add m u v = ltb_ext (m + u) (m + v) u v (λ h. omega arith) (λ h. omega arith)

ltb_lead : (m x y u v : ℕ) → u < m → v < m → (x ≡ y → ⊥) → ltb (m * x + u) (m * y + v) ≡ ltb x y
ltb_lead m x y u v hu hv d =
    ltb_ext _ _ x y
    (λ h. let high : ¬ (y < x) = λ l. omega (arith, h, lead m y x v u hv l) in omega (arith, d, high))
    (λ h. lead m x y u v hu h)

-- ---- the greatest byte first

big_none : (s : List ℕ) (at : ℕ) → big_word 0 s at ≡ 0
unfolding big_word
big_none s at = refl

big_step : (n : ℕ) (s : List ℕ) (at : ℕ) → big_word (suc n) s at ≡ 256 ^ n * get_or s at 0 + big_word n s (at + 1)
unfolding big_word
big_step n s at = refl

-- past the end every byte counts 0
big_beyond : (n : ℕ) (s : List ℕ) (at : ℕ) → length s ≤ at → big_word n s at ≡ 0
big_beyond zero s at h = big_none s at
big_beyond (suc n) s at h = rw (big_step n s at, get_or-eq_default s 0 h, big_beyond n s (at + 1) (omega arith)) (omega arith)

big_lt : (n : ℕ) (s : List ℕ) (at : ℕ) → ((k : ℕ) → get_or s k 0 < 256) → big_word n s at < 256 ^ n
big_lt zero s at h = omega (arith, big_none s at)
big_lt (suc n) s at h = omega (arith, big_step n s at, lead (256 ^ n) (get_or s at 0) 256 (big_word n s (at + 1)) 0 (big_lt n s (at + 1) h) (h at), pow-succ' 256 n, mul_comm 256 (256 ^ n))

-- ---- bytes swapped

bytes_at : ℕ → List ℕ → ℕ → List ℕ
bytes_at zero s at = []
bytes_at (suc n) s at = get_or s at 0 ∷ bytes_at n s (at + 1)

module _ (s : List ℕ) (h : (k : ℕ) → get_or s k 0 < 256) where
  bytes_of_word : (n at : ℕ) → bytes_of n (word n s at) ≡ bytes_at n s at
  unfolding bytes_of bytes_at
  bytes_of_word zero at = refl
  bytes_of_word (suc n) at =
      let low : word (suc n) s at % 256 ≡ get_or s at 0 = omega (arith, word_step n s at, h at) in
      let high : word (suc n) s at / 256 ≡ word n s (at + 1) = omega (arith, word_step n s at, h at) in
      rw (low, high, bytes_of_word n (at + 1))

  pub swapped : (at : ℕ) → swap_bytes w64 (word 8 s at) ≡ big_word 8 s at
  unfolding bytes_at big_word
  swapped at = ap (from_be_bytes w64) (bytes_of_le (word 8 s at) ∙ bytes_of_word 8 at) ∙ omega arith

-- ---- the order of two byte strings by such words

module _ (a b : List ℕ) (p : (k : ℕ) → get_or a k 0 < 256) (q : (k : ℕ) → get_or b k 0 < 256) where
  -- such a word tells its bytes
  big_tells : (n at : ℕ) → big_word (suc n) a at ≡ big_word (suc n) b at → (get_or a at 0 ≡ get_or b at 0) × (big_word n a (at + 1) ≡ big_word n b (at + 1))
  big_tells n at e =
      digits (256 ^ n) (get_or a at 0) (get_or b at 0) (big_word n a (at + 1)) (big_word n b (at + 1)) (big_lt n a (at + 1) p) (big_lt n b (at + 1) q)
      (sym (big_step n a at) ∙ e ∙ big_step n b at)

  big_get : (n at : ℕ) → big_word n a at ≡ big_word n b at → (k : ℕ) → k < n → get_or a (at + k) 0 ≡ get_or b (at + k) 0
  big_get zero at e k h = absurd (omega arith)
  big_get (suc n) at e zero h = rw (add-zero at) (big_tells n at e).0
  big_get (suc n) at e (suc k) h =
      let z : at + 1 + k ≡ at + suc k = omega arith in
      rw z at (big_get n (at + 1) (big_tells n at e).1 k (omega arith))

  -- at the end of the common start two words that differ are in the order of the strings
  big_apart : (n : ℕ) → (big_word (suc n) a (common a b) ≡ big_word (suc n) b (common a b) → ⊥) → ltb (big_word (suc n) a (common a b)) (big_word (suc n) b (common a b)) ≡ before a b
  big_apart n d =
      let at = common a b in
      by_bool (ltb at (length b))
      (λ tb. by_bool (ltb at (length a))
      (λ ta. let ha = ltb-true at (length a) ta in let hb = ltb-true at (length b) tb in
      rw (big_step n a at, big_step n b at) (ltb_lead (256 ^ n) (get_or a at 0) (get_or b at 0) (big_word n a (at + 1)) (big_word n b (at + 1)) (big_lt n a (at + 1) p) (big_lt n b (at + 1) q) (eqb-false _ _ (common-apart a b ha hb)) ∙ before_in a b hb ha))
      (λ fa. let z = big_beyond (suc n) a at (ltb-false at (length a) fa) in
      lt-ltb (big_word (suc n) a at) (big_word (suc n) b at) (omega (arith, z, d)) ∙ sym (before_end a b (ltb-true at (length b) tb) (ltb-false at (length a) fa))))
      (λ fb. le-ltb (big_word (suc n) a at) (big_word (suc n) b at) (omega (arith, big_beyond (suc n) b at (ltb-false at (length b) fb))) ∙ sym (before-not a b (ltb-false at (length b) fb)))

  -- the words differ: they are in the order of the strings
  pub before_big : (n at : ℕ) → at ≤ common a b → (big_word n a at ≡ big_word n b at → ⊥) → ltb (big_word n a at) (big_word n b at) ≡ before a b
  before_big zero at h d = absurd (d (big_none a at ∙ sym (big_none b at)))
  before_big (suc n) at h d =
      by_bool (ltb at (common a b))
      (λ t. let l = ltb-true at (common a b) t in let e = common_get a b at l in
      rw (big_step n a at, big_step n b at, e)
      (ltb_add (256 ^ n * get_or b at 0) (big_word n a (at + 1)) (big_word n b (at + 1)) ∙ before_big n (at + 1) (omega arith) (λ z. d (rw (big_step n a at, big_step n b at, e, z)))))
      (λ f. let z : at ≡ common a b = omega (arith, h, ltb-false at (common a b) f) in rw (sym z) at (big_apart n (rw z at d)))

  -- both go on behind the common start, which ends inside: the words differ
  big_differs : (n at : ℕ) → at ≤ common a b → common a b < at + n → common a b < length a → common a b < length b → big_word n a at ≡ big_word n b at → ⊥
  big_differs n at h inside ha hb e =
      let z : at + (common a b - at) ≡ common a b = omega arith in
      eqb-false _ _ (common-apart a b ha hb) (rw z at (big_get n at e (common a b - at) (omega (arith, h, inside))))

  -- they are the same, and no difference lies behind them: the lengths decide
  pub before_even : (n at : ℕ) → at ≤ common a b → (common a b < length a → common a b < length b → common a b < at + n) → big_word n a at ≡ big_word n b at
      → ltb (length a) (length b) ≡ before a b
  before_even n at h inside e = before-over a b (by_bool (ltb (common a b) (length a))
      (λ ta. let ha = ltb-true _ _ ta in by_bool (ltb (common a b) (length b))
      (λ tb. let hb = ltb-true _ _ tb in absurd (big_differs n at h (inside ha hb) ha hb e))
      (λ fb. inr (ltb-false _ _ fb)))
      (λ fa. inl (ltb-false _ _ fa)))
