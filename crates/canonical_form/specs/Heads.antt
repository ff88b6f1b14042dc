-- What the scans of an ID find of its head, in terms of its positions: for private functions. Definitions only. Assumes nothing.
use Rattle.std.specs.Prelude.{◌≡◌, ℕ, zero, suc, ◌<◌, ◌≤◌, Bool, true, false, not, ◌&&◌, T, List, [], ◌∷◌, ◌++◌, length, take, drop, replicate, slice_index_or}
use Rattle.wire.specs.Lists.{any, every}
use Rattle.entry_id.specs.Text.{join_with, not_colon}
use Rattle.entry_id.specs.Scan.{part, Run, ends_at, pieces_at}
use Rattle.wire.specs.Bytes.{empty, same}
use Rattle.entry_id.specs.Meaning.{fields_of, pieces_of, meaning, six_fields, field_byte, processor_shaped, kinds}
use Rattle.canonical_form.specs.declared.head.Head.{Head}

-- the first k fields are there, not empty and made of field bytes
unfoldable pub filled : ℕ → List (List ℕ) → Bool
filled zero fs = true
filled (suc k) [] = false
filled (suc k) (f ∷ fs) = not (empty f) && every field_byte f && filled k fs

-- a '-' at a, and a field of at least one byte from there to r
pub record Next (x : List ℕ) (a r : ℕ) : Type 0 where
  pub dash : slice_index_or x a 0 ≡ 45
  pub run : Run field_byte x (suc a) r
  pub some : suc a < r

-- there is none behind a field that ends at a
abbrev pub NoNext : List ℕ → ℕ → Type 0
NoNext x a = (s k : ℕ) → Run field_byte x s a → filled (suc (suc k)) (fields_of (drop s x)) ≡ false

-- kind, arch, vendor and system stand before d
pub record Triple (x : List ℕ) (d : ℕ) : Type 0 where
  pub kind : List ℕ
  pub arch : List ℕ
  pub vendor : List ℕ
  pub system : List ℕ
  pub start : ℕ
  pub kind_in : T (any (same kind) kinds)
  pub arch_some : T (not (empty arch))
  pub vendor_some : T (not (empty vendor))
  pub system_some : T (not (empty system))
  pub arch_bytes : T (every field_byte arch)
  pub vendor_bytes : T (every field_byte vendor)
  pub system_is : system ≡ part x start d
  pub run : Run field_byte x start d
  pub text : take d x ≡ kind ++ 45 ∷ arch ++ 45 ∷ vendor ++ 45 ∷ system
  pub fields_are : fields_of x ≡ kind ∷ arch ∷ vendor ∷ fields_of (drop start x)
  pub pieces_are : pieces_of x ≡ pieces_of (drop start x)

-- from a up to r, where the head ends, stands a processor
pub record ProcessorAt (x : List ℕ) (a r : ℕ) : Type 0 where
  pub run : Run not_colon x a r
  pub shaped : T (processor_shaped (part x a r))

-- the text starts with a kind and a '-'
pub record Kinded (x : List ℕ) : Type 0 where
  pub kind : List ℕ
  pub rest : List ℕ
  pub kind_in : T (any (same kind) kinds)
  pub is : x ≡ kind ++ 45 ∷ rest

-- the head is in order, and is h
pub record HeadAt (x : List ℕ) (h : Head) : Type 0 where
  pub kind_in : T (any (same (meaning x).kind) kinds)
  pub arch_some : T (not (empty (meaning x).arch))
  pub vendor_some : T (not (empty (meaning x).vendor))
  pub system_some : T (not (empty (meaning x).system))
  pub field_bytes_lem : T (every (every field_byte) ((meaning x).arch ∷ (meaning x).vendor ∷ (meaning x).system ∷ (meaning x).environment ∷ []))
  pub processor_shaped_lem : T (processor_shaped (meaning x).processor)
  pub proc_is : h.processor ≡ not (empty (meaning x).processor)
  pub least : 4 ≤ length (fields_of x)
  pub few : h.dashes ≤ 2
  pub place : h.at ≤ h.stop
  pub within : h.stop ≤ length x
  pub ends : ends_at x h.stop ≡ true
  pub form : join_with 45 (six_fields (meaning x)) ≡ take h.at x ++ replicate h.dashes 45 ++ part x h.at h.stop
  pub pieces_are : pieces_of x ≡ pieces_at x h.stop
