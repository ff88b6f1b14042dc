use mathlib.Core.Path.{sym, ◌∙◌}
use Rattle.wire.specs.Bytes.{same}
use Rattle.entry_id.specs.Compare.{compared_kind}
use Rattle.entry_compare.proofs.KindLaws.{is_four, as_spelled}
use Rattle.entry_compare.proofs.compared_kind.Goals as goal

pub slice_bounds-result-end : goal.slice_bounds-result-end
slice_bounds-result-end c = rw (is_four _ (sym c.same_bytes.ensures ∙ c.if-same_bytes.true))

pub returns-then-same_bytes : goal.returns-then-same_bytes
unfolding compared_kind same
returns-then-same_bytes c = rw (is_four c.args.kind.now (sym c.same_bytes.ensures ∙ c.if-same_bytes.true))

pub returns : goal.returns
returns c = as_spelled _ (sym c.same_bytes.ensures ∙ c.if-same_bytes.false)
