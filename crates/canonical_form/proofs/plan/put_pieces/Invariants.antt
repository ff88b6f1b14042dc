use Rattle.std.proofs.Common.{◌≡◌, ◌+◌, length, drop}
use Rattle.canonical_form.specs.Spans.{chunks}
use Rattle.wire.specs.Bytes.{overwrite}
use Rattle.canonical_form.proofs.plan.put_pieces.Given as goal

-- What is left, written from q on, gives the outcome.
abbrev pub invariant-loop-span : goal.invariant-loop-span
invariant-loop-span l = record {
  size : length l.out ≡ length l.initial.out;
  long : l.q + length (chunks l.id (drop l.span-index l.spans)) ≡ l.p + length (chunks l.id l.spans);
  written : overwrite l.out l.q (chunks l.id (drop l.span-index l.spans)) ≡ overwrite l.initial.out l.p (chunks l.id l.spans);
}
