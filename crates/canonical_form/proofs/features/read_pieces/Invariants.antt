use Rattle.std.proofs.Common.{◌≡◌, ◌-◌, ◌≤◌, true, T, ◌++◌, map, length, take}
use Rattle.wire.specs.Lists.{every}
use Rattle.entry_id.specs.Scan.{ends_at, pieces_at}
use Rattle.canonical_form.specs.Spans.{piece_at, good}
use Rattle.canonical_form.proofs.features.read_pieces.Given as goal

-- The pieces are those in the table and those from `at` on.
abbrev pub invariant-loop-at : goal.invariant-loop-at
invariant-loop-at l = record {
  below : l.at ≤ length l.id;
  few : l.n ≤ 8;
  size : length l.spans ≡ 8;
  ends : ends_at l.id l.at ≡ true;
  are : pieces_at l.id l.stop ≡ map (piece_at l.id) (take l.n l.spans) ++ pieces_at l.id l.at;
  all_good : T (every (good l.id) (take l.n l.spans));
}

abbrev pub decreases-loop-at : goal.decreases-loop-at
decreases-loop-at l = length l.id - l.at
