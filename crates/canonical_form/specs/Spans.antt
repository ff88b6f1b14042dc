-- Features as spans of one text. Definitions only. Assumes nothing.
use Rattle.std.specs.Prelude.{◌≡◌, ℕ, suc, ◌+◌, ◌<◌, ◌≤◌, Bool, true, not, ◌&&◌, T, List, [], ◌∷◌, ◌++◌, map, length, take, replicate, ◌==◌, nat_lt, slice_index, Option, is_some, IfSome}
use Rattle.wire.specs.Lists.{any, every}
use Rattle.wire.specs.Bytes.{same}
use Rattle.entry_id.specs.Text.{join_with}
use Rattle.wire.specs.Order.{insert_by, sort_by, distinct_by}
use Rattle.entry_id.specs.Meaning.{six_fields, feature, name_byte, signed, named, valid, canonical_of, meaning}
use Rattle.entry_id.specs.Canonical.{sign_byte}
use Rattle.entry_id.specs.Scan.{part, ends_at, pieces_at}
use Rattle.canonical_form.specs.declared.features.Span.{Span}
use Rattle.canonical_form.specs.declared.plan.Plan.{Plan}

-- the piece is a feature: a name and a sign
unfoldable pub piece_ok : List ℕ → Bool
piece_ok p = signed p && named (feature p)

-- a name from a to its sign at r, and the piece ends there
pub record Piece (x : List ℕ) (a r : ℕ) : Type 0 where
  pub some : a < r
  pub inside : r < length x
  pub bytes : T (every name_byte (part x a r))
  pub sgn : T (sign_byte (slice_index x r))
  pub ends : ends_at x (suc r) ≡ true

-- the span of a feature
unfoldable pub good : List ℕ → Span → Bool
good x s =
    (slice_index x s.at == 58) && nat_lt (suc s.at) s.sign && nat_lt s.sign (length x)
    && every name_byte (part x (suc s.at) s.sign) && sign_byte (slice_index x s.sign) && ends_at x (suc s.sign)

-- its name, its piece with the ':' before it, and the piece
unfoldable pub name_of : List ℕ → Span → List ℕ
name_of x s = part x (suc s.at) s.sign

unfoldable pub chunk_of : List ℕ → Span → List ℕ
chunk_of x s = part x s.at (suc s.sign)

unfoldable pub piece_at : List ℕ → Span → List ℕ
piece_at x s = part x (suc s.at) (suc s.sign)

pub record Pieces (x : List ℕ) (stop n : ℕ) (t : List Span) : Type 0 where
  pub few : n ≤ 8
  pub size : length t ≡ 8
  pub are : pieces_at x stop ≡ map (piece_at x) (take n t)
  pub all_good : T (every (good x) (take n t))

-- the first span put in its place among the others
unfoldable pub placed : List ℕ → List Span → List Span
placed x [] = []
placed x (f ∷ l) = insert_by (name_of x) f l

-- no other span has the name of the first
unfoldable pub new_first : List ℕ → List Span → Bool
new_first x [] = true
new_first x (f ∷ l) = not (any (λ g. same (name_of x f) (name_of x g)) l)

-- the first span of t was put in its place, which made u: none where its name is not new, else whether nothing moved
pub record PlacedIs (x : List ℕ) (t : List Span) (still : Option Bool) (u : List Span) : Type 0 where
  pub fresh : is_some still ≡ new_first x t
  pub made : IfSome still (λ s. (u ≡ placed x t) × (s ≡ true → u ≡ t))

-- the spans t were put in order, which made u: none where their names are not apart, else whether nothing moved
pub record SortedIs (x : List ℕ) (t : List Span) (tidy : Option Bool) (u : List Span) : Type 0 where
  pub apart : is_some tidy ≡ distinct_by (name_of x) t
  pub made : IfSome tidy (λ s. (u ≡ sort_by (name_of x) t) × (s ≡ true → u ≡ t))

-- ---- the canonical form in parts of the text

unfoldable pub chunks : List ℕ → List Span → List ℕ
chunks x [] = []
chunks x (s ∷ l) = chunk_of x s ++ chunks x l

unfoldable pub head_text : List ℕ → ℕ → ℕ → ℕ → List ℕ
head_text x at dashes stop = take at x ++ replicate dashes 45 ++ part x at stop

-- the parts of the canonical form are those that p names, with the spans t
pub record PlanAt (x : List ℕ) (p : Plan) (t : List Span) : Type 0 where
  pub right : T (valid x)
  pub place : p.head.at ≤ p.head.stop
  pub below : p.head.stop ≤ p.upto
  pub within : p.upto ≤ length x
  pub few_dashes : p.head.dashes ≤ 2
  pub few : p.count ≤ 8
  pub all_good : T (every (good x) (take p.count t))
  pub head : join_with 45 (six_fields (meaning x)) ≡ head_text x p.head.at p.head.dashes p.head.stop
  pub text : canonical_of (meaning x) ≡ head_text x p.head.at p.head.dashes p.upto ++ chunks x (take p.count t)
  pub long : length (canonical_of (meaning x)) ≡ length x + p.head.dashes
