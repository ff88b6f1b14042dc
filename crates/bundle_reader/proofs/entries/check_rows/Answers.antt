use native.Mathlib.Omega.{arith}
use mathlib.Core.Path.{sym, ap, ◌∙◌}
use lib.ListN.{length}
use Rattle.std.proofs.lemmas.Result.{err_from_is_err_and}
use Rattle.wire.specs.Refusals.{stop_by}
use Rattle.entry_id.specs.Rules.{rules_of}
use Rattle.bundle.specs.Check.{overlaps, overlap_stop, share_byte, same_span}
use Rattle.bundle.specs.Records.{row_of, rows_of}
use Rattle.wire.specs.Stop.{earlier}
use Rattle.bundle_reader.specs.Examined.{filled, form}
use Rattle.bundle_reader.proofs.CheckLaws.{stop_5, named_all, stop_6, all_inside, stop_between, stop_7}
use Rattle.bundle_reader.proofs.entries.check_rows.Goals as goal

pub returns-in_err-i-clause-stop : goal.returns-in_err-i-clause-stop
returns-in_err-i-clause-stop c =
    let p = err_from_is_err_and c.from_residual.result c.from_residual.ensures.1 in
    rw (p.1, p.2) (stop_5 c.args.reading _ _ _ _ _ _ c.in_err-i.ensures.stop)

pub returns-in-Some-clause-stop : goal.returns-in-Some-clause-stop
unfolding rows_of row_of
returns-in-Some-clause-stop c =
    ap stop_by c.at.ensures
    ∙ stop_6 c.args.reading _ (rows_of c.args.s.now c.args.rows.now) _ _ _ c.in_ok-i.ensures.stop c.in-Some.i (sym c.in-Some.is ∙ c.in_ok-i.ensures.outside)

pub check_overlaps-requires : goal.check_overlaps-requires
unfolding rows_of row_of
check_overlaps-requires c = λ k h.
    let s = c.args.s.now in
    let rows = rows_of s c.args.rows.now in
    let n = length c.args.rows.now in
    let inside = all_inside c.args.reading (overlap_stop n rows) rows n c.args.end (length s) c.in_ok-i.ensures.stop (sym c.in_default.is ∙ c.in_ok-i.ensures.outside) k h in
    omega (arith, inside, c.requires.room.1)

pub returns-in_err-check_overlaps-clause-stop : goal.returns-in_err-check_overlaps-clause-stop
unfolding overlap_stop earlier overlaps share_byte same_span rows_of row_of
returns-in_err-check_overlaps-clause-stop c =
    let p = err_from_is_err_and c.from_residual-in_err-check_overlaps.result c.from_residual-in_err-check_overlaps.ensures.1 in
    rw (p.1, p.2)
    (stop_between c.args.reading _ (rows_of c.args.s.now c.args.rows.now) _ _ _ c.in_ok-i.ensures.stop (sym c.in_default.is ∙ c.in_ok-i.ensures.outside) _ c.in_err-check_overlaps.ensures)

pub returns-clause-stop : goal.returns-clause-stop
unfolding overlap_stop earlier overlaps share_byte same_span rows_of row_of
returns-clause-stop c =
    let R = rules_of c.args.reading in
    let rows = rows_of c.args.s.now c.args.rows.now in
    let ids = c.args.ids.now in
    let k = c.in_ok-i.ensures in
    stop_7 c.args.reading _ rows _ _ _ k.stop (sym c.in_default.is ∙ k.outside) ids _
    (k.ids_after ∙ ap (λ m. filled ids m (form R rows)) (named_all c.args.reading rows _ k.stop))
    c.requires.room.0 _ c.in_ok-check_overlaps.ensures c.check_relations.ensures
