-- The differences of two bundles, and the report on them. Definitions only.
use Rattle.std.specs.Prelude.{ℕ, zero, suc, ◌+◌, ◌/◌, ◌%◌, cond, List, [], ◌∷◌, ◌++◌, map, eqb, ltb, length}
use Prim.Native.Char.{code}
use Rattle.wire.specs.Bytes.{bytes, same, common, overwrite}
use Rattle.wire.specs.Lists.{joined, flattened}
use Rattle.wire.specs.Order.{sort_by}
use Rattle.wire.specs.Stop.{Stop, ◌⨾◌, stop_if}
use Rattle.entry_id.specs.IdRules.{IdRules}
use Rattle.bundle.specs.Check.{bundle_stop}
use Rattle.bundle.specs.Entry.{Entry, entries}

-- ---- differences

-- one difference: the letter of its line (L the left alone, R the right alone, D both), the ID that it is about, and the first byte at which images
-- differ (0 where there is one image only)
pub record Difference : Type 0 where
  pub letter : ℕ
  pub id : List ℕ
  pub at : ℕ

-- "`L id` where only the left has it"
abbrev pub only_left : Entry → Difference
only_left e = record { letter = code "L"; id = e.id; at = 0 }

-- "`R id` where only the right has it"
abbrev pub only_right : Entry → Difference
only_right f = record { letter = code "R"; id = f.id; at = 0 }

-- "`D id n` where the images differ first at byte n (n is the shorter length if one begins with the other)"
abbrev pub other_image : Entry → Entry → Difference
other_image e f = record { letter = code "D"; id = e.id; at = common e.image f.image }

-- of two entries with one ID
unfoldable pub met : Entry → Entry → List Difference
met e f = cond (same e.image f.image) [] (other_image e f ∷ [])

-- the entries of a list that have the ID x: of an accepted bundle at most one
unfoldable pub with_id : List ℕ → List Entry → List Entry
with_id x [] = []
with_id x (e ∷ es) = cond (same e.id x) (e ∷ with_id x es) (with_id x es)

-- of an entry of the left, by what the right has with its ID
unfoldable pub left_against : Entry → List Entry → List Difference
left_against e [] = only_left e ∷ []
left_against e (f ∷ fs) = met e f

-- of an entry of the right, by what the left has with its ID: what both have is said of the left's
unfoldable pub right_against : Entry → List Entry → List Difference
right_against f [] = only_right f ∷ []
right_against f (e ∷ es) = []

abbrev pub by_difference_id : Difference → List ℕ
by_difference_id d = d.id

-- of the entries of two bundles, "with IDs in canonical form and in its order"
unfoldable pub differences_of : List Entry → List Entry → List Difference
differences_of es fs =
    sort_by by_difference_id
    (flattened (λ e. left_against e (with_id e.id fs)) es
    ++ flattened (λ f. right_against f (with_id f.id es)) fs)

-- ---- text

-- the decimal digits of v, at most n + 1 of them
unfoldable pub decimal_of : ℕ → ℕ → List ℕ
decimal_of zero v = (48 + v) ∷ []
decimal_of (suc n) v = cond (ltb v 10) ((48 + v) ∷ []) (decimal_of n (v / 10) ++ ((48 + v % 10) ∷ []))

-- all of them: v has no more than v digits, or one
unfoldable pub decimal : ℕ → List ℕ
decimal v = decimal_of v v

-- "`L id`", "`R id`", "`D id n`"
unfoldable pub line : Difference → List ℕ
line d = d.letter ∷ (32 ∷ (d.id ++ cond (eqb d.letter (code "D")) (32 ∷ decimal d.at) []))

-- a line as it is printed, with its end
abbrev pub ended : List ℕ → List ℕ
ended l = l ++ (10 ∷ [])

unfoldable pub printed : List (List ℕ) → List ℕ
printed ls = joined ended ls

-- "`differences N`", where "N is the number of lines before the last"
unfoldable pub last_line : ℕ → List ℕ
last_line n = bytes "differences " ++ decimal n

-- "prints .. `L id` .., `R id` .., `D id n` .., then `differences N`"
unfoldable pub difference_lines : List Difference → List (List ℕ)
difference_lines ds = map line ds ++ (last_line (length ds) ∷ [])

-- "`refused left 4` or the like"
unfoldable pub refused_line : List ℕ → ℕ → List ℕ
refused_line side k = bytes "refused " ++ (side ++ (32 ∷ decimal k))

-- "A refused input prints only" its line
unfoldable pub refused_by : ℕ → List ℕ → List (List ℕ) → List (List ℕ)
refused_by zero side lines = lines
refused_by (suc k) side lines = refused_line side (suc k) ∷ []

-- ---- two bundles

module _ (R : IdRules) where
  unfoldable pub differences : List ℕ → List ℕ → List Difference
  differences a b = differences_of (entries R a) (entries R b)

  -- "A file above 32 KiB counts as LENGTH"
  unfoldable pub input_stop : List ℕ → Stop
  input_stop s = stop_if 1 (ltb 32768 (length s)) ⨾ bundle_stop R s

  -- "if both are refused, only the left one's line"
  unfoldable pub report : List ℕ → List ℕ → List ℕ
  report a b =
      printed
      (refused_by (input_stop a).number (bytes "left") (refused_by (input_stop b).number (bytes "right")
      (difference_lines (differences a b))))

  -- the lent output after the call: the report where it fits, "what lies past a length written stays as it was"; else all of it
  unfoldable pub reported : List ℕ → List ℕ → List ℕ → List ℕ
  reported a b out = overwrite out 0 (report a b)
