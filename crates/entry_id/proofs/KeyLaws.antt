-- Texts that a test relates have one kind and behind it equal heads, and so equal numbers. Assumes nothing.
use Prim.Native.Nat.{ℕ, ◌+◌, ◌%◌, ◌^◌}
use mathlib.Core.Path.{◌≡◌, ap, ap₂}
use mathlib.Core.Bool.{Bool, true, ◌&&◌}
use mathlib.Core.List.{List}
use lib.ListN.{length}
use Rattle.wire.specs.Bytes.{same}
use Rattle.wire.proofs.Bools.{and_both, of_true}
use Rattle.wire.proofs.ByteLaws.{same_eq}
use Rattle.entry_id.specs.Compare.{compared_kind}
use Rattle.entry_id.specs.Canonical.{kind_part, after_kind, head_of, head_number, key_of, head_key, of_one_kind, compatible_spelled, mixed_spelled, compatible_text, same_text, mixed_text}

module _ (a b : List ℕ) where
  -- a test that tells heads apart
  key_test : (test : List ℕ → List ℕ → Bool) → (test (after_kind a) (after_kind b) ≡ true → head_of (after_kind a) ≡ head_of (after_kind b)) → of_one_kind test a b ≡ true → head_key a ≡ head_key b
  unfolding of_one_kind head_key key_of
  key_test test h e =
      let (k, t) = and_both (same (compared_kind (kind_part a)) (compared_kind (kind_part b))) _ e in
      ap₂ (λ (x y : List ℕ). (head_number x + length y) % 2 ^ 64) (h t) (same_eq _ _ (of_true _ k))

  same_heads : (x y : List ℕ) (b : Bool) → (same (head_of x) (head_of y) && b) ≡ true → head_of x ≡ head_of y
  same_heads x y b e = same_eq _ _ (of_true _ (and_both (same (head_of x) (head_of y)) b e).0)

  pub key-same : same_text a b ≡ true → head_key a ≡ head_key b
  unfolding same_text
  key-same e = key_test same (λ t. ap head_of (same_eq _ _ (of_true _ t))) e

  pub key-mixed : mixed_text a b ≡ true → head_key a ≡ head_key b
  unfolding mixed_text mixed_spelled
  key-mixed e = key_test mixed_spelled (same_heads _ _ _) e

  pub key-compatible : compatible_text a b ≡ true → head_key a ≡ head_key b
  unfolding compatible_text compatible_spelled
  key-compatible e = key_test compatible_spelled (same_heads _ _ _) e
