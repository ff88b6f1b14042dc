-- Binaries on each side of the lines of 13 to 19: proofs/ExamplesProof.antt proves them by computation. Statements only.
use Rattle.std.specs.Prelude.{ℕ, zero, suc, ◌+◌, ◌-◌, ◌^◌, ◌≡◌, true, false, List, [], ◌∷◌, ◌++◌, take, drop}
use Rattle.wire.specs.Word.{bytes_of, word}
use Rattle.wire.specs.Bytes.{bytes}
use Rattle.offload_binary.specs.Contents.{Contents, written}
use Rattle.offload_binary.specs.Reader.{answer, accepted}

-- a binary with no strings and no image, and one with `arch`/`sm_70` and a 3-byte image
abbrev pub bare : Contents
bare = record { image_kind = 0; offload_kind = 0; flags = 0; image = []; strings = [] }

abbrev pub sm70 : Contents
sm70 = record { image_kind = 3; offload_kind = 2; flags = 0; image = 7 ∷ 8 ∷ 9 ∷ []; strings = record { key = bytes "arch"; text = bytes "sm_70" } ∷ [] }

-- the second with the n bytes at a place replaced by a number's, and what the first call then says
abbrev pub replaced : ℕ → ℕ → ℕ → List ℕ
replaced n at v = take at (written sm70) ++ (bytes_of n v ++ drop (at + n) (written sm70))

abbrev pub changed : ℕ → ℕ → ℕ → ℕ
changed n at v = (answer (replaced n at v) 0).number

-- the first, n times
abbrev pub bares : ℕ → List ℕ
bares zero = []
bares (suc n) = written bare ++ bares n

pub record BinaryExamples : Type 0 where
  pub bare_accepted : accepted (written bare) ≡ true
  pub accepted_both : accepted (written bare ++ written sm70) ≡ true
  pub image_place : (answer (written bare ++ written sm70) 1).binary.image ≡ record { start = 176; len = 3 }
  -- "the field says 72 with no pairs too"
  pub table_place : word 8 (written bare) 40 ≡ 72
  -- 13
  pub short : (answer (take 31 (written sm70)) 0).number ≡ 13
  pub wrong_magic : changed 1 3 172 ≡ 13
  pub version : changed 4 4 2 ≡ 13
  -- 14
  pub size_small : changed 8 8 71 ≡ 14
  pub size_large : changed 8 8 113 ≡ 14
  pub entry_size_lem : changed 8 24 41 ≡ 14
  pub entry_low : changed 8 16 31 ≡ 14
  pub entry_high : changed 8 16 73 ≡ 14
  pub entry_wraps : changed 8 16 (2 ^ 64 - 8) ≡ 14
  -- 15
  pub image_kind_lem : changed 2 32 6 ≡ 15
  pub offload_kind_lem : changed 2 34 4 ≡ 15
  pub flags_free : changed 4 36 4294967295 ≡ 0
  -- 16
  pub many_strings : changed 8 48 33 ≡ 16
  pub table_low : changed 8 40 31 ≡ 16
  pub table_high : changed 8 40 97 ≡ 16
  pub key_low : changed 8 72 31 ≡ 16
  pub key_at_end : changed 8 72 112 ≡ 16
  pub key_past_end : (answer (replaced 8 72 112 ++ written bare) 0).number ≡ 16
  pub key_empty : changed 8 72 92 ≡ 16
  pub text_empty : changed 8 80 92 ≡ 0
  -- 17
  pub image_low : changed 8 56 31 ≡ 17
  pub image_high : changed 8 64 9 ≡ 17
  pub image_whole : changed 8 64 8 ≡ 0
  pub image_wraps : changed 8 56 (2 ^ 64 - 2) ≡ 17
  -- 18
  pub sixty_four : accepted (bares 64) ≡ true
  pub sixty_five : accepted (bares 65) ≡ false
