-- Laws of little-endian words, over the width. Assumes nothing.
use Prim.Native.Nat.{ℕ, zero, suc, ◌+◌, ◌-◌, ◌*◌, ◌/◌, ◌%◌, ◌^◌, ◌<◌, ◌≤◌}
use native.Mathlib.Omega.{arith}
use native.Mathlib.Nat.{add-zero, zero-add, suc-add, mul_comm, mul_assoc, pow-succ', div-one, div-div-eq-div-mul, mod-eq_of_lt}
use Rattle.std.proofs.Math.Nat.{pow-suc, pow-le-pow_right}
use Rattle.std.specs.List.{between}
use Rattle.std.specs.Int.{w64, bytes_low_first, to_le_bytes}
use mathlib.Core.Path.{◌≡◌, refl, sym, ap, ◌∙◌}
use mathlib.Core.List.{List, ◌∷◌, ◌++◌}
use lib.Pow.{pow-add}
use lib.ListN.{length, get_or, take, drop, get_or-eq_default, length-drop}
use lib.Seq.{drop_at, get_or-drop, get_or-take, drop-drop, length-take-le}
use Rattle.wire.specs.Word.{bytes_of, word_of, word}

-- ---- written and read back

pub length_bytes_of : (n v : ℕ) → length (bytes_of n v) ≡ n
unfolding bytes_of
length_bytes_of zero v = refl
length_bytes_of (suc n) v = ap suc (length_bytes_of n (v / 256))

pub word_of_bytes_of : (n v : ℕ) (rest : List ℕ) → v < 256 ^ n → word_of n (bytes_of n v ++ rest) ≡ v
unfolding bytes_of word_of
word_of_bytes_of zero v rest h = omega arith
word_of_bytes_of (suc n) v rest h =
    let h' : v / 256 < 256 ^ n = omega arith in
    rw (word_of_bytes_of n (v / 256) rest h') (omega arith)

-- a word that stands after p is read as it was written
pub word_at : (n : ℕ) (p : List ℕ) (v : ℕ) (rest : List ℕ) (at : ℕ) → length p ≡ at → v < 256 ^ n → word n (p ++ (bytes_of n v ++ rest)) at ≡ v
unfolding word
word_at n p v rest at e h = rw (drop_at p (bytes_of n v ++ rest) at e) (word_of_bytes_of n v rest h)

-- ---- std's bytes of a number, and a number of its bytes

bytes_from : (n i v : ℕ) → bytes_low_first i n v ≡ bytes_of n (v / 256 ^ i)
unfolding bytes_of
bytes_from zero i v = refl
bytes_from (suc n) zero v = rw (div-one v) (ap (λ l. v % 256 ∷ l) (bytes_from n 1 v))
bytes_from (suc n) (suc i) v = rw (div-div-eq-div-mul v (256 ^ suc i) 256, ← pow-suc 256 (suc i)) (ap (λ l. v / 256 ^ suc i % 256 ∷ l) (bytes_from n (suc (suc i)) v))

pub bytes_of_le : (v : ℕ) → to_le_bytes w64 v ≡ bytes_of 8 v
bytes_of_le v = bytes_from 8 0 v ∙ ap (bytes_of 8) (div-one v)

-- ---- a word is read from its own bytes: lists that agree there give the same number

pub word_of_agree : (n : ℕ) (s t : List ℕ) → ((k : ℕ) → k < n → get_or s k 0 ≡ get_or t k 0) → word_of n s ≡ word_of n t
unfolding word_of
word_of_agree zero s t h = refl
word_of_agree (suc n) s t h =
    let tails : word_of n (drop 1 s) ≡ word_of n (drop 1 t) = word_of_agree n (drop 1 s) (drop 1 t) (λ k l. simp get_or-drop (h (1 + k) (omega arith))) in
    rw (h 0 (omega arith), tails)

pub word-agree : (n : ℕ) (s t : List ℕ) (at : ℕ) → ((k : ℕ) → k < n → get_or s (at + k) 0 ≡ get_or t (at + k) 0) → word n s at ≡ word n t at
unfolding word
word-agree n s t at h = word_of_agree n (drop at s) (drop at t) (λ k l. simp get_or-drop (h k l))

-- ---- byte after byte, and half after half

pub word_step : (n : ℕ) (s : List ℕ) (at : ℕ) → word (suc n) s at ≡ get_or s at 0 + 256 * word n s (at + 1)
unfolding word word_of
word_step n s at = simp (get_or-drop, drop-drop, add-zero)

pub word_none : (s : List ℕ) (at : ℕ) → word 0 s at ≡ 0
unfolding word word_of
word_none s at = refl

pub word_byte : (s : List ℕ) (at : ℕ) → word 1 s at ≡ get_or s at 0
word_byte s at = omega (arith, word_step 0 s at, word_none s (at + 1))

pub word_lt : (n : ℕ) (s : List ℕ) (at : ℕ) → ((k : ℕ) → get_or s k 0 < 256) → word n s at < 256 ^ n
word_lt zero s at h = omega (arith, word_none s at)
word_lt (suc n) s at h = omega (arith, word_step n s at, h at, word_lt n s (at + 1) h)

-- a word of m + n bytes is one of m and one of n
pub word_split : (m n : ℕ) (s : List ℕ) (at : ℕ) → word (m + n) s at ≡ word m s at + 256 ^ m * word n s (at + m)
word_split zero n s at = rw (zero-add n, add-zero at) (omega (arith, word_none s at))
word_split (suc m) n s at =
    let shift : at + 1 + m ≡ at + suc m = omega arith in
    rw (suc-add m n, word_step (m + n) s at, word_split m n s (at + 1), word_step m s at, shift, pow-succ' 256 m, mul_assoc 256 (256 ^ m) (word n s (at + suc m))) (omega arith)

-- a word tells its bytes
pub word_get : (n : ℕ) (s t : List ℕ) (at : ℕ) → ((k : ℕ) → get_or s k 0 < 256) → ((k : ℕ) → get_or t k 0 < 256) → word n s at ≡ word n t at
    → (k : ℕ) → k < n → get_or s (at + k) 0 ≡ get_or t (at + k) 0
word_get zero s t at p q e k h = absurd (omega arith)
word_get (suc n) s t at p q e zero h = rw (add-zero at) (omega (arith, e, word_step n s at, word_step n t at, p at, q at))
word_get (suc n) s t at p q e (suc k) h =
    let z : at + 1 + k ≡ at + suc k = omega arith in
    rw z at (word_get n s t (at + 1) p q (omega (arith, e, word_step n s at, word_step n t at, p at, q at)) k (omega arith))

-- past the end every byte counts 0
pub word-beyond : (n : ℕ) (s : List ℕ) (at : ℕ) → length s ≤ at → word n s at ≡ 0
word-beyond zero s at h = word_none s at
word-beyond (suc n) s at h = omega (arith, word_step n s at, word-beyond n s (at + 1) (omega arith), get_or-eq_default s 0 h)

-- so a word may go on behind the end
word_end : (m n : ℕ) (s : List ℕ) (at : ℕ) → m ≤ n → length s ≤ at + m → word m s at ≡ word n s at
word_end m n s at h e =
    let z : m + (n - m) ≡ n = omega arith in
    let split : word n s at ≡ word m s at + 256 ^ m * word (n - m) s (at + m) = rw z at (word_split m (n - m) s at) in
    rw (split, word-beyond (n - m) s (at + m) e) (omega arith)

-- the word of a part by itself
pub word_part : (n : ℕ) (s : List ℕ) (at : ℕ) → at + n ≤ length s → word (length (between at (at + n) s)) (between at (at + n) s) 0 ≡ word n s at
unfolding word
word_part n s at h =
    let e : at + n - at ≡ n = omega arith in
    let l : length (take n (drop at s)) ≡ n = length-take-le n (drop at s) (simp length-drop (omega arith)) in
    rw (e, l) (word_of_agree n (take n (drop at s)) (drop at s) (λ k b. get_or-take n (drop at s) k 0 b))

-- and of all that is left, where that is no longer
pub word_rest : (n : ℕ) (s : List ℕ) (at : ℕ) → at ≤ length s → length s - at ≤ n → word (length (between at (length s) s)) (between at (length s) s) 0 ≡ word n s at
word_rest n s at h few =
    let e : at + (length s - at) ≡ length s = omega arith in
    rw e at (word_part (length s - at) s at (omega arith)) ∙ word_end (length s - at) n s at few (omega arith)

-- a word of at most 8 bytes fits 64 bits
pub word-fits : (n : ℕ) (s : List ℕ) (at : ℕ) → n ≤ 8 → ((k : ℕ) → get_or s k 0 < 256) → word n s at < 2 ^ 64
word-fits n s at h small =
    let top : 256 ^ n ≤ 256 ^ 8 = pow-le-pow_right (omega arith) h in
    omega (arith, word_lt n s at small, top)

pow_bytes : (k : ℕ) → 2 ^ (8 * k) ≡ 256 ^ k
pow_bytes zero = refl
pow_bytes (suc k) =
    let e : 8 * suc k ≡ 8 + 8 * k = omega arith in
    rw (e, pow-add 2 8 (8 * k), pow_bytes k, pow-succ' 256 k)

-- its bytes from k on, shifted to their place
pub word_shift : (k n : ℕ) (s : List ℕ) → k + n ≤ 8 → ((i : ℕ) → get_or s i 0 < 256) → (word n s k * 2 ^ (8 * k) % 2 ^ 64 ≡ 256 ^ k * word n s k) × (word k s 0 + 256 ^ k * word n s k ≡ word (k + n) s 0)
word_shift k n s h small =
    let whole : word (k + n) s 0 ≡ word k s 0 + 256 ^ k * word n s k = rw (zero-add k) at (word_split k n s 0) in
    let fits : 256 ^ k * word n s k < 2 ^ 64 = omega (arith, whole, word-fits (k + n) s 0 h small) in
    let e : word n s k * 2 ^ (8 * k) ≡ 256 ^ k * word n s k = ap (λ p. word n s k * p) (pow_bytes k) ∙ mul_comm (word n s k) (256 ^ k) in
    (rw e (mod-eq_of_lt fits), sym whole)

-- one byte more
pub word_next : (k m : ℕ) (s : List ℕ) → k + 1 ≤ 8 → ((i : ℕ) → get_or s i 0 < 256) → m ≡ word k s 0 → m + get_or s k 0 * 2 ^ (8 * k) % 2 ^ 64 ≡ word (k + 1) s 0
word_next k m s h small e =
    let byte : word 1 s k ≡ get_or s k 0 = omega (arith, word_step 0 s k, word_none s (k + 1)) in
    let more = word_shift k 1 s h small in
    rw (e, ← byte, more.0) more.1
