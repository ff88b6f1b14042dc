use mathlib.Core.Path.{ap, ◌∙◌}
use lib.Dec.{eqb}
use Rattle.offload_binary.proofs.ResultLaws.{ok_is}
use Rattle.offload_binary_recovery.proofs.SearchLaws.{passes_read}
use Rattle.offload_binary_recovery.proofs.passes.Goals as goal

pub returns : goal.returns
returns c = let a = c.args in c.is_ok.ensures.value ∙ ok_is c.binary_at.result ∙ ap (λ x. eqb x.number 0) c.binary_at.ensures ∙ passes_read a.s.now a.p
