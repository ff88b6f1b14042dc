use Rattle.std.proofs.Common.{◌≡◌, suc, T, ◌++◌, length, take, drop}
use Rattle.wire.specs.Lists.{every}
use Rattle.wire.specs.Order.{rising_by}
use Rattle.canonical_form.specs.Spans.{good, name_of, placed, new_first}
use Rattle.canonical_form.proofs.features.place.Given as goal

-- The span at i has still to be put in its place, the outcome is the same, and what is left says whether its name is new.
abbrev pub invariant-loop-i : goal.invariant-loop-i
invariant-loop-i l = record {
  size : length l.spans ≡ length l.initial.spans;
  all_good : T (every (good l.id) l.spans);
  made : take l.i l.spans ++ placed l.id (drop l.i l.spans) ≡ placed l.id l.initial.spans;
  fresh : new_first l.id (drop l.i l.spans) ≡ new_first l.id l.initial.spans;
  rises : T (rising_by (name_of l.id) (drop (suc l.i) l.spans));
  kept : l.i ≡ 0 → l.spans ≡ l.initial.spans;
}
