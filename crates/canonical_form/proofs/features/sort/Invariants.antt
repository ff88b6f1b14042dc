use Rattle.std.proofs.Common.{◌≡◌, true, T, ◌++◌, take, drop}
use Rattle.wire.specs.Order.{sort_by, distinct_by}
use Rattle.canonical_form.specs.Spans.{name_of}
use Rattle.canonical_form.proofs.features.sort.Given as goal

-- Those from k on are in order, and their names are apart.
abbrev pub invariant-loop-k : goal.invariant-loop-k
invariant-loop-k l = record {
  made : l.spans ≡ take l.k l.initial.spans ++ sort_by (name_of l.id) (drop l.k l.initial.spans);
  apart : T (distinct_by (name_of l.id) (drop l.k l.initial.spans));
  kept : l.tidy ≡ true → l.spans ≡ l.initial.spans;
}
