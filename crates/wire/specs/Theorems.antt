-- What is proved of byte strings and words, as two records: proofs/Theorems.antt has their proofs. Statements only.
use Rattle.std.specs.Prelude.{ℕ, ◌<◌, ◌^◌, ◌≡◌, ◌↔◌, List, ◌++◌, length, T}
use Rattle.wire.specs.Word.{bytes_of, word}
use Rattle.wire.specs.Bytes.{same, before, overwrite}

-- byte order is total, irreflexive and transitive; `same` is equality
pub record ByteOrder : Type 0 where
  pub irreflexive : (a : List ℕ) → T (before a a) → ⊥
  pub transitive : (a b c : List ℕ) → T (before a b) → T (before b c) → T (before a c)
  pub total : (a b : List ℕ) → (T (before a b) → ⊥) → (T (before b a) → ⊥) → a ≡ b
  pub equal : (a b : List ℕ) → T (same a b) ↔ (a ≡ b)

-- what is written is read back, at every width; a write keeps the output's length
pub record Words : Type 0 where
  pub read_back : (n : ℕ) (p : List ℕ) (v : ℕ) (rest : List ℕ) (at : ℕ) → length p ≡ at → v < 256 ^ n → word n (p ++ (bytes_of n v ++ rest)) at ≡ v
  pub width : (n v : ℕ) → length (bytes_of n v) ≡ n
  pub same_size : (out : List ℕ) (at : ℕ) (src : List ℕ) → length (overwrite out at src) ≡ length out
