use Rattle.std.proofs.Common.{sym, ◌∙◌}
use Rattle.entry_compare.proofs.TestLaws.{mixed_alike, mixed_yes, mixed_no, same_alike}
use Rattle.entry_compare.proofs.Pair.relation.Goals as goal

pub returns-then-same : goal.returns-then-same
returns-then-same c = let e = sym c.same.ensures ∙ c.if-same.true in (sym e, mixed_alike _ _ (same_alike _ _ e))

pub returns-then-alike : goal.returns-then-alike
returns-then-alike c = (sym c.if-same.false ∙ c.same.ensures, mixed_alike _ _ (sym c.alike.ensures ∙ c.if-alike.true))

pub returns-in-Some : goal.returns-in-Some
returns-in-Some c = (sym c.if-same.false ∙ c.same.ensures, mixed_yes _ _ _ c.in-Some.ensures (sym c.alike.ensures ∙ c.if-alike.false))

pub returns-in-None : goal.returns-in-None
returns-in-None c = (sym c.if-same.false ∙ c.same.ensures, mixed_no _ _ c.in-None.ensures)
