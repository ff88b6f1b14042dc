-- Heads that start with a kind, and the key made from them. Assumes nothing.
use Rattle.std.proofs.Common.{◌≡◌, ℕ, ◌≤◌, cond, T, eqb, leb, List, ◌∷◌, ◌++◌, length, get_or, sym, ap, ◌∙◌, arith, eqb→eq, leb→le, length-append, eq-eqb, ne_eqb}
use Rattle.wire.specs.Bytes.{same}
use Rattle.wire.specs.Lists.{any, every}
use Rattle.entry_id.specs.Meaning.{kinds}
use Rattle.entry_id.specs.Compare.{compared_kind}
use Rattle.entry_id.specs.Canonical.{kind_part}
use Rattle.entry_id.proofs.ReadBack.{any-holds, kind-bytes}
use Rattle.entry_id.proofs.KindLaws.{kind-before}
use Rattle.canonical_form.specs.Heads.{Kinded}
use Rattle.canonical_form.specs.Made.{compared_length}

-- the length of the kind, by the first, second and fourth bytes
unfoldable pub by_bytes : List ℕ → ℕ
by_bytes x = cond (eqb (get_or x 0 0) 111) 6 (cond (eqb (get_or x 1 0) 111) 4 (cond (eqb (get_or x 3 0) 45) 3 5))

-- the kind that a kind is compared as has the length that its own length tells
pub compared-length : (k : List ℕ) → T (any (same k) kinds) → length (compared_kind k) ≡ compared_length (length k)
unfolding kinds every compared_kind same compared_length
compared-length k t = eqb→eq _ _ (any-holds (λ k. eqb (length (compared_kind k)) (compared_length (length k))) k kinds t tt)

module _ (x : List ℕ) (h : Kinded x) where
  kind_is : kind_part x ≡ h.kind
  kind_is = ap kind_part h.is ∙ kind-before h.kind h.rest (kind-bytes h.kind h.kind_in)

  bytes_tell : length h.kind ≡ by_bytes (h.kind ++ 45 ∷ h.rest)
  unfolding kinds every by_bytes
  bytes_tell = eqb→eq _ _ (any-holds (λ k. eqb (length k) (by_bytes (k ++ 45 ∷ h.rest))) h.kind kinds h.kind_in tt)

  pub kind-length : length (kind_part x) ≡ by_bytes x
  kind-length = ap length kind_is ∙ bytes_tell ∙ ap by_bytes (sym h.is)

  pub kind-short : (4 ≤ length x) × (length (kind_part x) ≤ length x)
  unfolding kinds every
  kind-short =
      let k : 3 ≤ length h.kind = leb→le _ _ (any-holds (λ k. leb 3 (length k)) h.kind kinds h.kind_in tt) in
      let n : length x ≡ _ = ap length h.is ∙ length-append h.kind (45 ∷ h.rest) in
      (omega (arith, k, n), omega (arith, n, ap length kind_is))

  pub compared_here : length (compared_kind (kind_part x)) ≡ compared_length (length (kind_part x))
  compared_here = rw kind_is (compared-length h.kind h.kind_in)

-- as `key_behind` tells them
pub five_as_three : (n : ℕ) → n ≡ 5 → 3 ≡ compared_length n
unfolding compared_length
five_as_three n e = rw (eq-eqb n 5 e)

pub others_as_spelled : (n : ℕ) → (n ≡ 5 → ⊥) → n ≡ compared_length n
unfolding compared_length
others_as_spelled n f = rw (ne_eqb n 5 f)
