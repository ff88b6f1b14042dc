use Rattle.canonical_form.proofs.OrderLaws.{compared_inside, compared_ends}
use Rattle.canonical_form.proofs.features.compared.Goals as goal

pub returns-then-n-a : goal.returns-then-n-a
returns-then-n-a c = compared_inside _ _ _ c.common_prefix-n.ensures _ c.if-n-a.true c.cmp.ensures

pub returns : goal.returns
returns c = compared_ends _ _ _ c.common_prefix-n.ensures _ c.if-n-a.false c.cmp-2.ensures
