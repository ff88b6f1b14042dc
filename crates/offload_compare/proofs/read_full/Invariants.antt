use Rattle.std.proofs.Common.{◌≤◌, ◌-◌, length, take}
use Rattle.std.specs.Io.KnownBytes.{Consumes}
use Rattle.offload_compare.proofs.read_full.Given as goal

-- what was read has room, and is what the file had next
abbrev pub invariant-loop-got : goal.invariant-loop-got
invariant-loop-got g l = (l.got ≤ length l.bytes) × Consumes (g.R.Read.remaining l.initial.file) (g.R.Read.remaining l.file) (take l.got l.bytes)

abbrev pub decreases-loop-got : goal.decreases-loop-got
decreases-loop-got g l = length l.bytes - l.got
