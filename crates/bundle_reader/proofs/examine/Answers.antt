use Rattle.std.specs.Prelude.{Ok, Err}
use mathlib.Core.Path.{ap, ap₂, ◌∙◌}
use Rattle.std.proofs.lemmas.Result.{err_from_is_err_and}
use Rattle.bundle.specs.Table.{count}
use Rattle.bundle_reader.specs.Examined.{filled, row_held, examined}
use Rattle.bundle_reader.proofs.RefusalLaws.{result_is}
use Rattle.bundle_reader.proofs.examine.Goals as goal

pub returns-in_err-count-clause-answer : goal.returns-in_err-count-clause-answer
unfolding examined
returns-in_err-count-clause-answer c =
    let p = err_from_is_err_and c.from_residual.result c.from_residual.ensures.1 in
    p.1 ∙ ap Err p.2 ∙ result_is _ _ (Err _) c.in_err-count.ensures.stop tt

pub returns-clause-answer : goal.returns-clause-answer
unfolding examined
returns-clause-answer c =
    let k = c.in_ok-count.ensures in
    let s = c.args.bundle.now in
    result_is _ _ (Ok _) k.stop
    (ap₂ (λ n z. record { count = n; rows = z }) k.count (k.rows_after ∙ ap (λ z. filled z (count s) (row_held s)) c.no_records-rows.ensures))
