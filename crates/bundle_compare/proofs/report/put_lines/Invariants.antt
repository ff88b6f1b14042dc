use Prim.Native.Nat.{◌*◌, ◌≤◌}
use mathlib.Core.List.{map}
use lib.ListN.{take}
use Rattle.bundle.specs.Differences.{line, printed}
use Rattle.bundle_compare.specs.Code.{shown_all, Put}
use Rattle.bundle_compare.proofs.report.put_lines.Given as goal

abbrev pub invariant-loop-difference : goal.invariant-loop-difference
invariant-loop-difference l =
    (l.at ≤ 280 * l.difference-index) × Put l.initial.out 0 (printed (map line (shown_all (take l.difference-index l.found)))) l.at l.out
