use mathlib.Core.Path.{sym, ◌∙◌}
use Rattle.wire.proofs.ByteLaws.{same_true}
use Rattle.bundle_compare.proofs.FindLaws.{order_other}
use Rattle.bundle_compare.proofs.find.order.Goals as goal

pub returns-then-same_bytes : goal.returns-then-same_bytes
returns-then-same_bytes c = same_true _ _ (sym c.same_bytes.ensures ∙ c.if-same_bytes.true)

pub returns : goal.returns
returns c = order_other _ _ (sym c.same_bytes.ensures ∙ c.if-same_bytes.false) (sym c.comes_before.ensures ∙ c.if-comes_before.false)
