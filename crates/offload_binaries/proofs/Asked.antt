-- A reader that was opened and asked n times. Assumes nothing.
use Prim.Native.Nat.{ℕ, zero, suc}
use mathlib.Core.Path.{◌≡◌, ap}
use Rattle.offload_binary.specs.Reader.{opened, cursor_after, answer}
use Rattle.offload_binaries.specs.Held.{answered, moved}
use Rattle.offload_binaries.specs.Asked.{asked, EveryReader}
use Rattle.offload_binaries.specs.declared.Reader.{Reader}

module _ (r : Reader) (o : r.cursor ≡ opened) where
  stands : (n : ℕ) → asked n r ≡ record { bytes = r.bytes; cursor = cursor_after n r.bytes.now }
  unfolding asked moved cursor_after
  stands zero = λ i. record { bytes = r.bytes; cursor = o i }
  stands (suc n) = ap moved (stands n)

  answers : (n : ℕ) → answered (asked n r) ≡ answer r.bytes.now n
  unfolding answered answer
  answers n = ap answered (stands n)

pub every_reader : EveryReader
every_reader r o = record { answers = answers r o; stands = stands r o }
