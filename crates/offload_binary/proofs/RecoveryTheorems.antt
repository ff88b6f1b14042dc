-- The theorems on recovery. Assumes nothing.
use Rattle.offload_binary.specs.RecoveryTheorems.{Theorems}
use Rattle.offload_binary.proofs.RecoveryLaws.{whole_sequence, lowest_each}
use Rattle.offload_binary.proofs.TailLaws.{unchanged, tail_out}
use Rattle.offload_binary.proofs.RecoverLaws.{exact, tail_call}

pub theorems : Theorems
theorems = record { whole = whole_sequence; lowest_each = lowest_each; unchanged = unchanged; tail_out = tail_out; exact = exact; tail_call = tail_call }
