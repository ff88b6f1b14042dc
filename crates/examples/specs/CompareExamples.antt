-- Examples of the report on two bundles, those of RULES B.27: one table under one claim. Statements only.
use Rattle.std.specs.Prelude.{ℕ, ◌≡◌, List, [], ◌∷◌, ◌++◌, length, replicate}
use Rattle.wire.specs.Bytes.{bytes}
use Rattle.entry_id.specs.Rules.{id_rules}
use Rattle.bundle.specs.Layout.{encode}
use Rattle.bundle.specs.Differences.{printed, report, reported}
use Rattle.examples.specs.Examples.{host, gfx906, hipv4, on, no_entries, two, spans}

-- a bundle with one entry
abbrev pub one : List ℕ → List ℕ → List ℕ
one id image = encode (record { id = id; image = image } ∷ [])

abbrev pub hosts : List ℕ → List ℕ
hosts image = one host image

-- two lines
abbrev pub lines : List ℕ → List ℕ → List ℕ
lines x y = printed (x ∷ y ∷ [])

abbrev pub only : List ℕ → List ℕ
only x = printed (x ∷ [])

pub record CompareExamples : Type 0 where
  -- "Case whole: left holds `host-x86_64-unknown-linux-gnu-` with bytes 1 2 3, right has the same ID with 1 2 4; the output is the line
  -- `D host-x86_64-unknown-linux-gnu- 2` and the line `differences 1`."
  pub whole : report id_rules (hosts (1 ∷ 2 ∷ 3 ∷ [])) (hosts (1 ∷ 2 ∷ 4 ∷ [])) ≡ lines (bytes "D host-x86_64-unknown-linux-gnu- 2") (bytes "differences 1")
  pub whole_length : length (report id_rules (hosts (1 ∷ 2 ∷ 3 ∷ [])) (hosts (1 ∷ 2 ∷ 4 ∷ []))) ≡ 49
  -- "n is the shorter length if one begins with the other"
  pub shorter : report id_rules (hosts (1 ∷ 2 ∷ 3 ∷ [])) (hosts (1 ∷ 2 ∷ [])) ≡ lines (bytes "D host-x86_64-unknown-linux-gnu- 2") (bytes "differences 1")
  pub empty_image : report id_rules (hosts []) (hosts (1 ∷ [])) ≡ lines (bytes "D host-x86_64-unknown-linux-gnu- 0") (bytes "differences 1")
  -- no difference
  pub same : report id_rules (hosts (1 ∷ [])) (hosts (1 ∷ [])) ≡ only (bytes "differences 0")
  pub none : report id_rules no_entries no_entries ≡ only (bytes "differences 0")
  -- "`L id` where only the left has it, `R id` where only the right has it"
  pub left : report id_rules (hosts (1 ∷ [])) no_entries ≡ lines (bytes "L host-x86_64-unknown-linux-gnu-") (bytes "differences 1")
  pub right : report id_rules no_entries (hosts (1 ∷ [])) ≡ lines (bytes "R host-x86_64-unknown-linux-gnu-") (bytes "differences 1")
  -- "in the sense of demand 3", which counts the two spellings as different entries
  pub spellings : report id_rules (one gfx906 []) (one hipv4 [])
      ≡ printed (bytes "L hip-amdgcn-amd-amdhsa--gfx906" ∷ bytes "R hipv4-amdgcn-amd-amdhsa--gfx906" ∷ bytes "differences 2" ∷ [])
  -- "if both are refused, only the left one's line"
  pub both_refused : report id_rules [] [] ≡ only (bytes "refused left 2")
  pub right_refused : report id_rules no_entries [] ≡ only (bytes "refused right 2")
  pub mixed : report id_rules (two gfx906 (on gfx906)) no_entries ≡ only (bytes "refused left 8")
  pub overlaps : report id_rules no_entries (spans 0 4 3 4) ≡ only (bytes "refused right 21")
  -- a report that does not fit is not written; one that fits leaves what lies behind it
  pub no_room : reported id_rules no_entries no_entries (replicate 13 7) ≡ replicate 13 7
  pub room : reported id_rules no_entries no_entries (replicate 15 7) ≡ printed (bytes "differences 0" ∷ []) ++ (7 ∷ [])
