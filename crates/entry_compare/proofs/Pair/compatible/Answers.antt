use Rattle.std.proofs.Common.{sym, ◌∙◌}
use Rattle.entry_compare.proofs.TestLaws.{compatible_self, compatible_no, compatible_yes}
use Rattle.entry_compare.proofs.Pair.compatible.Goals as goal

pub returns-then-same : goal.returns-then-same
returns-then-same c = compatible_self _ _ (sym c.same.ensures ∙ c.if-same.true)

pub returns-in-Some : goal.returns-in-Some
returns-in-Some c = c.all_in.ensures ∙ compatible_yes _ _ _ c.in-Some.ensures

pub returns-in-None : goal.returns-in-None
returns-in-None c = compatible_no _ _ c.in-None.ensures
