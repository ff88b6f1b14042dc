-- What holds of the differences of two bundles and of the report on them. Statements only; `proofs/Differences` proves `CompareTheorems`.
use Rattle.std.specs.Prelude.{ℕ, suc, ◌+◌, ◌*◌, ◌-◌, ◌<◌, ◌≤◌, ◌≡◌, ◌↔◌, ◌⊎◌, T, length, get_or}
use Prim.Native.Char.{code}
use mathlib.Core.List.{List, [], ◌∷◌, Memᴰ}
use Rattle.wire.specs.Bytes.{bytes}
use Rattle.wire.specs.Order.{rising_by}
use Rattle.wire.specs.Stop.{over}
use Rattle.entry_id.specs.IdRules.{IdRules}
use Rattle.entry_id.specs.Meaning.{Meaning}
use Rattle.bundle.specs.Check.{check}
use Rattle.bundle.specs.Entry.{Entry, entries}
use Rattle.bundle.specs.Demand.{SameEntries}
use Rattle.bundle.specs.Differences.{Difference, by_difference_id, differences, decimal, printed, difference_lines, refused_line, input_stop, report, reported}

-- ---- differences

-- n is "first at byte n", or "the shorter length if one begins with the other"
pub record DifferAt (x y : List ℕ) (n : ℕ) : Type 0 where
  pub left : n ≤ length x
  pub right : n ≤ length y
  pub agree : (i : ℕ) → i < n → get_or x i 0 ≡ get_or y i 0
  pub end : n < length x → n < length y → get_or x n 0 ≡ get_or y n 0 → ⊥

module _ (R : IdRules) where
  -- the bundle has an entry with the canonical ID x
  pub record Has (s x : List ℕ) : Type 0 where
    pub entry : Entry
    pub there : Memᴰ entry (entries R s)
    pub named : entry.id ≡ x

  -- both have an entry with the canonical ID x, and their images differ first at byte n
  pub record Other (a b x : List ℕ) (n : ℕ) : Type 0 where
    pub left : Has a x
    pub right : Has b x
    pub unlike : left.entry.image ≡ right.entry.image → ⊥
    pub first : DifferAt left.entry.image right.entry.image n

  -- each line exactly in its own case, "with IDs in canonical form and in its order", so that no ID stands there twice
  pub record LinesExact (a b : List ℕ) : Type 0 where
    pub only_left_lem : (x : List ℕ) → Memᴰ (record { letter = code "L"; id = x; at = 0 }) (differences R a b) ↔ (Has a x × (Has b x → ⊥))
    pub only_right_lem : (x : List ℕ) → Memᴰ (record { letter = code "R"; id = x; at = 0 }) (differences R a b) ↔ (Has b x × (Has a x → ⊥))
    pub other_image_lem : (x : List ℕ) (n : ℕ) → Memᴰ (record { letter = code "D"; id = x; at = n }) (differences R a b) ↔ Other a b x n
    -- and there is no other line
    pub no_other : (d : Difference) → Memᴰ d (differences R a b)
        → (d ≡ record { letter = code "L"; id = d.id; at = 0 }) ⊎ ((d ≡ record { letter = code "R"; id = d.id; at = 0 }) ⊎ (d ≡ record { letter = code "D"; id = d.id; at = d.at }))
    pub rising : T (rising_by by_difference_id (differences R a b))

-- of two accepted bundles
pub record DifferencesExact (R : IdRules) (mean : List ℕ → Meaning) (a b : List ℕ) : Type 0 where
  -- "N is 0 exactly when the bundles hold the same entries in the sense of demand 3."
  pub none : (length (differences R a b) ≡ 0) ↔ SameEntries mean a b
  pub lines : LinesExact R a b

-- ---- numbers as text

-- the number that digits say, behind those that say v
unfoldable pub says_after : ℕ → List ℕ → ℕ
says_after v [] = v
says_after v (c ∷ l) = says_after (10 * v + (c - 48)) l

-- the digits of v: they say v, each is one of 0 to 9, and the first is 0 in that of 0 alone
pub record DecimalExact (v : ℕ) : Type 0 where
  pub says : says_after 0 (decimal v) ≡ v
  pub digits : (c : ℕ) → Memᴰ c (decimal v) → (48 ≤ c) × (c ≤ 57)
  pub first : get_or (decimal v) 0 0 ≡ 48 → v ≡ 0

-- ---- the report

module _ (R : IdRules) where
  -- "bundles of at most 32 KiB", and "A file above 32 KiB counts as LENGTH"
  pub record InputExact (s : List ℕ) : Type 0 where
    pub long : 32768 < length s → (input_stop R s).number ≡ 1
    pub short : length s ≤ 32768 → (input_stop R s).number ≡ (check R s).number

  pub record ReportExact (a b : List ℕ) : Type 0 where
    -- "A refused input prints only `refused left 4` or the like; if both are refused, only the left one's line."
    pub left_refused : (k : ℕ) → (input_stop R a).number ≡ suc k → report R a b ≡ printed (refused_line (bytes "left") (suc k) ∷ [])
    pub right_refused : (k : ℕ) → (input_stop R a).number ≡ 0 → (input_stop R b).number ≡ suc k → report R a b ≡ printed (refused_line (bytes "right") (suc k) ∷ [])
    -- a line for each difference, "then `differences N`"
    pub compared : (input_stop R a).number ≡ 0 → (input_stop R b).number ≡ 0 → report R a b ≡ printed (difference_lines (differences R a b))
    -- room that is always enough: two times 64 lines of 259 bytes, and the last of 16
    pub fits : length (report R a b) ≤ 33168
    -- it is written where it fits, and else nothing is
    pub written : (out : List ℕ) → length (report R a b) ≤ length out → reported R a b out ≡ over (report R a b) out
    pub unwritten : (out : List ℕ) → length out < length (report R a b) → reported R a b out ≡ out

-- ---- all of them, of the rules R and what texts mean by them

pub record CompareTheorems (R : IdRules) (mean : List ℕ → Meaning) : Type 0 where
  pub differences_exact : (a b : List ℕ) → (check R a).number ≡ 0 → (check R b).number ≡ 0 → DifferencesExact R mean a b
  pub decimal_exact : (v : ℕ) → DecimalExact v
  pub input_exact : (s : List ℕ) → InputExact R s
  pub report_exact : (a b : List ℕ) → ReportExact R a b
