-- What a scan for a byte finds: what follows a '-', and pieces. Assumes nothing.
use Prim.Native.Nat.{ℕ, ◌+◌, ◌≤◌, ◌<◌}
use native.Mathlib.Numerals.{add-one}
use mathlib.Core.Path.{◌≡◌, refl, sym, ap₂, ◌∙◌}
use mathlib.Core.Bool.{Bool, true, ◌&&◌}
use mathlib.Core.List.{List, [], ◌∷◌}
use lib.Dec.{eqb}
use lib.ListN.{length, take, drop, drop_of_length-le}
use borrow.Author.Tests.{lt-ltb, le-ltb}
use Rattle.wire.specs.Lists.{every}
use Rattle.std.specs.List.{starts_with}
use lib.Pointwise.{pointwise}
use Rattle.wire.specs.Bytes.{same}
use Rattle.wire.proofs.Bools.{eqb_sym}
use Rattle.entry_id.specs.Text.{join_with, other_than, not_colon}
use Rattle.entry_id.specs.Scan.{part, Run, pieces_at}
use Rattle.entry_id.proofs.TextLaws.{join_split}
use Rattle.entry_id.proofs.RunLaws.{cut-run, cut-piece, pieces_here, pieces_none}
use Rattle.profile_form.specs.Parts.{behind, begins}

-- ---- behind the first '-', by its position r

module _ (x : List ℕ) (from r : ℕ) (h : Run (other_than 45) x from r) where
  pub past-found : r < length x → drop (r + 1) x ≡ behind (drop from x)
  unfolding behind
  past-found k = rw (cut-run 45 x from r h, lt-ltb r (length x) k, add-one r) (sym (join_split 45 _))

  pub past_end : length x ≤ r → drop r x ≡ behind (drop from x)
  unfolding behind join_with
  past_end k = drop_of_length-le x {i = r} k ∙ sym (rw (cut-run 45 x from r h, le-ltb r (length x) k))

-- ---- beginnings

pointwise_same : (p y : List ℕ) → pointwise eqb p y ≡ same y p
unfolding same
pointwise_same [] [] = refl
pointwise_same [] (b ∷ y) = refl
pointwise_same (a ∷ p) [] = refl
pointwise_same (a ∷ p) (b ∷ y) = ap₂ ◌&&◌ (eqb_sym a b) (pointwise_same p y)

pub starts_same : (x p : List ℕ) (r : Bool) → r ≡ starts_with eqb x p → r ≡ begins p x
unfolding begins
starts_same x p r e = e ∙ pointwise_same p (take (length p) x)

-- ---- pieces

-- what is left of the pieces decides: the piece behind the ':' at `at` ends at e
pub every-next : (q : List ℕ → Bool) (x : List ℕ) (at e : ℕ) → at < length x → Run not_colon x (at + 1) e → every q (pieces_at x at) ≡ (q (part x (at + 1) e) && every q (pieces_at x e))
unfolding every
every-next q x at e h s = rw (pieces_here x at h, sym (add-one at), cut-piece x (at + 1) e s)

pub every_end : (q : List ℕ → Bool) (x : List ℕ) (at : ℕ) → length x ≤ at → every q (pieces_at x at) ≡ true
unfolding every
every_end q x at h = rw (pieces_none x at h)
