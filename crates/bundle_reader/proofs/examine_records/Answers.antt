use mathlib.Core.Path.{ap, ◌∙◌}
use lib.ListN.{length}
use Rattle.bundle.specs.Records.{rows_of, records_stop}
use Rattle.bundle_reader.specs.Examined.{filled, form, forms_of_records, examined_records}
use Rattle.bundle_reader.proofs.IdLaws.{general_is}
use Rattle.bundle_reader.proofs.RefusalLaws.{result_is, unit_is}
use Rattle.bundle_reader.proofs.examine_records.Goals as goal

pub returns-clause-answer : goal.returns-clause-answer
unfolding examined_records
returns-clause-answer c =
    let a = c.args in
    result_is _ _ c.check_records.result
    (c.check_records.ensures.stop ∙ ap (λ R. records_stop R a.buffer.now a.len (length a.records.now) a.records.now) general_is)
    (unit_is c.check_records.result)

pub returns-clause-stop : goal.returns-clause-stop
returns-clause-stop c =
    let a = c.args in
    c.check_records.ensures.stop ∙ ap (λ R. records_stop R a.buffer.now a.len (length a.records.now) a.records.now) general_is

pub returns-clause-ids_after : goal.returns-clause-ids_after
returns-clause-ids_after c =
    let a = c.args in
    c.check_records.ensures.ids_after
    ∙ ap (λ R. filled a.ids.now (forms_of_records R a.buffer.now (length a.records.now) a.records.now) (form R (rows_of a.buffer.now a.records.now))) general_is
