use native.Mathlib.Omega.{arith}
use mathlib.Core.Path.{refl, sym, ap, ◌∙◌}
use lib.Seq.{length-take-le}
use Rattle.std.proofs.lemmas.Result.{err_from_is_err_and}
use Rattle.wire.specs.Stop.{go}
use Rattle.wire.specs.Refusals.{stop_by}
use Rattle.entry_id.specs.Rules.{rules_of}
use Rattle.bundle.specs.Records.{row_of, rows_of}
use Rattle.bundle_reader.specs.Examined.{filled, form}
use Rattle.bundle_reader.proofs.FilledLaws.{filled-none}
use Rattle.bundle_reader.proofs.CheckLaws.{stop_5, named_all, stop_6, stop_7, parts-stop, parts_go, parts_forms, parts_few, parts_in}
use Rattle.bundle_reader.proofs.entries.check_records.Goals as goal

pub returns-in_err-check_parts-clause-stop : goal.returns-in_err-check_parts-clause-stop
returns-in_err-check_parts-clause-stop c =
    let p = err_from_is_err_and c.from_residual.result c.from_residual.ensures.1 in
    rw (p.1, p.2) (parts-stop _ _ _ _ _ c.in_err-check_parts.ensures).0

pub returns-in_err-check_parts-clause-ids_after : goal.returns-in_err-check_parts-clause-ids_after
returns-in_err-check_parts-clause-ids_after c =
    let R = rules_of c.args.reading in
    let rows = rows_of c.args.buffer.now c.args.records.now in
    filled-none _ _ ∙ ap (λ m. filled c.args.ids.now m (form R rows)) (parts-stop c.args.buffer.now c.args.len c.args.records.now R _ c.in_err-check_parts.ensures).1

pub read_ids-requires : goal.read_ids-requires
read_ids-requires c =
    let a = c.args in
    let e = c.in_ok-check_parts.ensures in
    (omega (arith, c.requires, parts_few a.buffer.now a.len a.records.now (rules_of a.reading) e), parts_in a.buffer.now a.len a.records.now (rules_of a.reading) e)

pub returns-in_err-i-clause-stop : goal.returns-in_err-i-clause-stop
returns-in_err-i-clause-stop c =
    let p = err_from_is_err_and c.from_residual-in_err-i.result c.from_residual-in_err-i.ensures.1 in
    rw (p.1, p.2) (parts_go _ _ _ (rules_of c.args.reading) c.in_ok-check_parts.ensures _ (stop_5 c.args.reading go _ _ _ _ _ c.in_err-i.ensures.stop))

pub returns-in_err-i-clause-ids_after : goal.returns-in_err-i-clause-ids_after
returns-in_err-i-clause-ids_after c =
    let a = c.args in
    let R = rules_of a.reading in
    c.in_err-i.ensures.ids_after ∙ ap (λ m. filled a.ids.now m (form R (rows_of a.buffer.now a.records.now))) (parts_forms a.buffer.now a.len a.records.now R c.in_ok-check_parts.ensures)

pub returns-in-Some-clause-stop : goal.returns-in-Some-clause-stop
unfolding rows_of row_of
returns-in-Some-clause-stop c =
    let a = c.args in
    ap stop_by c.at.ensures
    ∙ parts_go _ _ _ (rules_of a.reading) c.in_ok-check_parts.ensures _
    (stop_6 a.reading go (rows_of a.buffer.now a.records.now) _ _ _ c.in_ok-i.ensures.stop c.in-Some.i (sym c.in-Some.is ∙ c.in_ok-i.ensures.outside))

pub returns-in-Some-clause-ids_after : goal.returns-in-Some-clause-ids_after
returns-in-Some-clause-ids_after c =
    let a = c.args in
    let R = rules_of a.reading in
    c.in_ok-i.ensures.ids_after ∙ ap (λ m. filled a.ids.now m (form R (rows_of a.buffer.now a.records.now))) (parts_forms a.buffer.now a.len a.records.now R c.in_ok-check_parts.ensures)

pub slice_bounds-check_relations-end : goal.slice_bounds-check_relations-end
slice_bounds-check_relations-end c =
    let a = c.args in
    omega (arith, c.requires, parts_few a.buffer.now a.len a.records.now (rules_of a.reading) c.in_ok-check_parts.ensures, c.read_ids.auto.ids)

pub slice_bounds-check_relations-end-2 : goal.slice_bounds-check_relations-end-2
slice_bounds-check_relations-end-2 c =
    let a = c.args in
    sym (length-take-le _ _ (omega (arith, c.requires, parts_few a.buffer.now a.len a.records.now (rules_of a.reading) c.in_ok-check_parts.ensures, c.read_ids.auto.ids)))

pub returns-clause-stop : goal.returns-clause-stop
unfolding rows_of row_of
returns-clause-stop c =
    let a = c.args in
    let R = rules_of a.reading in
    let rows = rows_of a.buffer.now a.records.now in
    let k = c.in_ok-i.ensures in
    let few = parts_few a.buffer.now a.len a.records.now R c.in_ok-check_parts.ensures in
    parts_go _ _ _ R c.in_ok-check_parts.ensures _
    (stop_7 a.reading go rows _ _ _ k.stop (sym c.in_default.is ∙ k.outside) a.ids.now _
    (k.ids_after ∙ ap (λ m. filled a.ids.now m (form R rows)) (named_all a.reading rows _ k.stop))
    (omega (arith, few, c.requires)) _ refl c.check_relations.ensures)

pub returns-clause-ids_after : goal.returns-clause-ids_after
returns-clause-ids_after c =
    let a = c.args in
    let R = rules_of a.reading in
    c.in_ok-i.ensures.ids_after ∙ ap (λ m. filled a.ids.now m (form R (rows_of a.buffer.now a.records.now))) (parts_forms a.buffer.now a.len a.records.now R c.in_ok-check_parts.ensures)
