-- A reader that was opened and then asked again and again: the contracts of `open` and `next` say what the theorems on sequences (offload_binary's
-- SequenceTheorems: one after another, staying, END) speak of. Statements only; `proofs/Asked` proves it.
use Rattle.std.specs.Prelude.{ℕ, zero, suc, ◌≡◌}
use Rattle.offload_binary.specs.Reader.{opened, cursor_after, answer}
use Rattle.offload_binaries.specs.Held.{answered, moved}
use Rattle.offload_binaries.specs.declared.Reader.{Reader}

-- the reader after n calls of `next`
unfoldable pub asked : ℕ → Reader → Reader
asked zero r = r
asked (suc n) r = moved (asked n r)

-- "A reader is opened on one lent strip and hands back its binaries one after another": call n, counted from 0, of an opened reader
pub record InTurn (r : Reader) : Type 0 where
  pub answers : (n : ℕ) → answered (asked n r) ≡ answer r.bytes.now n
  pub stands : (n : ℕ) → asked n r ≡ record { bytes = r.bytes; cursor = cursor_after n r.bytes.now }

abbrev pub EveryReader : Type 0
EveryReader = (r : Reader) → r.cursor ≡ opened → InTurn r
