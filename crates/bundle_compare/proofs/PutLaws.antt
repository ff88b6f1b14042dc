-- Bytes put one after another. Assumes nothing.
use Prim.Native.Nat.{ℕ, ◌+◌, ◌≤◌}
use native.Mathlib.Omega.{arith}
use mathlib.Core.Path.{◌≡◌, refl, sym, ap, ap₂, ◌∙◌}
use mathlib.Core.List.{List, [], ◌++◌}
use lib.ListN.{length, take, drop, length-append}
use lib.Seq.{take_at}
use Rattle.wire.specs.Bytes.{overwrite}
use Rattle.wire.proofs.OverwriteLaws.{overwrite_in, overwrite_nil, overwrite_then}
use Rattle.bundle_compare.specs.Code.{Put}

pub put_nothing : (out : List ℕ) (at : ℕ) → Put out at [] at out
put_nothing out at = record { next_is = omega arith; length_is = refl; bytes_are = λ h. sym (overwrite_nil out at) }

pub put_then : (out : List ℕ) (at : ℕ) (x : List ℕ) (next : ℕ) (mid : List ℕ) (y : List ℕ) (last : ℕ) (after : List ℕ)
    → Put out at x next mid → Put mid next y last after → Put out at (x ++ y) last after
put_then out at x next mid y last after p q =
    let n : next ≡ at + length x = p.next_is in
    let m : last ≡ next + length y = q.next_is in
    let k : length mid ≡ length out = p.length_is in
    let l : length (x ++ y) ≡ length x + length y = length-append x y in
    record {
      next_is = omega (arith, n, m, l);
      length_is = q.length_is ∙ k;
      bytes_are = λ h.
          q.bytes_are (omega (arith, h, n, k, l)) ∙ ap (λ o. overwrite o next y) (p.bytes_are (omega (arith, h, l)))
          ∙ overwrite_then out at next x y (sym n) (omega (arith, h, n, l));
    }

-- bytes that are the same
pub put_same : (out : List ℕ) (at : ℕ) (x y : List ℕ) (next : ℕ) (after : List ℕ) → x ≡ y → Put out at x next after → Put out at y next after
put_same out at x y next after e p = rw e at p

-- all of an output that has room
module _ (out x : List ℕ) (next : ℕ) (after : List ℕ) (p : Put out 0 x next after) where
  pub put_end : next ≡ length x
  put_end = omega (arith, p.next_is)

  pub put_taken : length x ≤ length out → take next after ≡ x
  put_taken h =
      ap₂ take put_end (p.bytes_are (omega (arith, h)) ∙ overwrite_in out 0 x (omega (arith, h)))
      ∙ take_at x (drop (0 + length x) out) (length x) refl
