use native.Mathlib.Omega.{arith}
use mathlib.Core.Path.{sym, ap, ◌∙◌}
use lib.ListN.{length}
use Rattle.std.proofs.lemmas.Result.{err_from_is_err_and}
use Rattle.entry_id.specs.Rules.{rules_of}
use Rattle.bundle.specs.Table.{count, row}
use Rattle.bundle.specs.Check.{overlap_stop, rows_stop}
use Rattle.bundle_reader.specs.Examined.{form, filled}
use Rattle.bundle_reader.specs.declared.table.Table.{Table}
use Rattle.bundle_reader.proofs.FilledLaws.{filled-none}
use Rattle.bundle_reader.proofs.CheckLaws.{table-stops, table_goes, table-forms, table_framed, same_rows, same_forms}
use Rattle.bundle_reader.proofs.RowLaws.{rows_room, rows-length, rows_are, rows_inside}
use Rattle.bundle_reader.proofs.entries.check_in.Goals as goal

pub returns-in_err-table-clause-stop : goal.returns-in_err-table-clause-stop
returns-in_err-table-clause-stop c =
    let p = err_from_is_err_and c.from_residual.result c.from_residual.ensures.1 in
    rw (p.1, p.2) (table-stops _ _ _ c.in_err-table.ensures.stop).0

pub returns-in_err-table-clause-ids_after : goal.returns-in_err-table-clause-ids_after
returns-in_err-table-clause-ids_after c =
    let R = rules_of c.args.reading in
    let s = c.args.s.now in
    filled-none _ _ ∙ ap (λ m. filled c.args.ids.now m (form R (row s))) (table-stops s R _ c.in_err-table.ensures.stop).1

pub slice_bounds-check_rows-end : goal.slice_bounds-check_rows-end
slice_bounds-check_rows-end c =
    let k = c.in_ok-table.ensures in
    let f = table_framed c.args.s.now (rules_of c.args.reading) k.stop in
    rows_room _ _ c.args.rows.now _ (ap (λ (t : Table). t.count) k.table) k.rows_after (c.requires f.few).0

pub slice_bounds-check_rows-end-2 : goal.slice_bounds-check_rows-end-2
slice_bounds-check_rows-end-2 c =
    let k = c.in_ok-table.ensures in
    let f = table_framed c.args.s.now (rules_of c.args.reading) k.stop in
    sym (rows-length _ _ c.args.rows.now _ (ap (λ (t : Table). t.count) k.table) k.rows_after (c.requires f.few).0)

pub check_rows-requires-clause-room : goal.check_rows-requires-clause-room
check_rows-requires-clause-room c =
    let k = c.in_ok-table.ensures in
    let f = table_framed c.args.s.now (rules_of c.args.reading) k.stop in
    let e = ap (λ (t : Table). t.count) k.table in
    let size = rows-length _ _ c.args.rows.now _ e k.rows_after (c.requires f.few).0 in
    (omega (arith, size, e, (c.requires f.few).1), f.fits)

pub check_rows-requires-clause-inside : goal.check_rows-requires-clause-inside
check_rows-requires-clause-inside c =
    let k = c.in_ok-table.ensures in
    let f = table_framed c.args.s.now (rules_of c.args.reading) k.stop in
    rows_inside _ _ c.args.rows.now _ (ap (λ (t : Table). t.count) k.table) k.rows_after (c.requires f.few).0 f

pub returns-in_err-check_rows-clause-stop : goal.returns-in_err-check_rows-clause-stop
returns-in_err-check_rows-clause-stop c =
    let k = c.in_ok-table.ensures in
    let s = c.args.s.now in
    let R = rules_of c.args.reading in
    let f = table_framed s R k.stop in
    let e = ap (λ (t : Table). t.count) k.table in
    let size = rows-length s _ c.args.rows.now _ e k.rows_after (c.requires f.few).0 in
    let are = rows_are s _ c.args.rows.now _ e k.rows_after (c.requires f.few).0 in
    let p = err_from_is_err_and c.from_residual-in_err-check_rows.result c.from_residual-in_err-check_rows.ensures.1 in
    rw (p.1, p.2)
    (table_goes s R k.stop _
    (c.in_err-check_rows.ensures.stop ∙ same_rows R s _ (count s) (row s) (size ∙ e) are _ ∙ ap (λ (t : Table). rows_stop R (overlap_stop (count s) (row s)) t.end (length s) (count s) (row s)) k.table))

pub returns-in_err-check_rows-clause-ids_after : goal.returns-in_err-check_rows-clause-ids_after
returns-in_err-check_rows-clause-ids_after c =
    let k = c.in_ok-table.ensures in
    let s = c.args.s.now in
    let R = rules_of c.args.reading in
    let f = table_framed s R k.stop in
    let e = ap (λ (t : Table). t.count) k.table in
    let size = rows-length s _ c.args.rows.now _ e k.rows_after (c.requires f.few).0 in
    let are = rows_are s _ c.args.rows.now _ e k.rows_after (c.requires f.few).0 in
    c.in_err-check_rows.ensures.ids_after ∙ same_forms R s _ (count s) (row s) (size ∙ e) are _ ∙ ap (λ m. filled c.args.ids.now m (form R (row s))) (table-forms s R k.stop)

pub returns-clause-stop : goal.returns-clause-stop
returns-clause-stop c =
    let k = c.in_ok-table.ensures in
    let s = c.args.s.now in
    let R = rules_of c.args.reading in
    let f = table_framed s R k.stop in
    let e = ap (λ (t : Table). t.count) k.table in
    let size = rows-length s _ c.args.rows.now _ e k.rows_after (c.requires f.few).0 in
    let are = rows_are s _ c.args.rows.now _ e k.rows_after (c.requires f.few).0 in
    table_goes s R k.stop _
    (c.in_ok-check_rows.ensures.stop ∙ same_rows R s _ (count s) (row s) (size ∙ e) are _ ∙ ap (λ (t : Table). rows_stop R (overlap_stop (count s) (row s)) t.end (length s) (count s) (row s)) k.table)

pub returns-clause-count : goal.returns-clause-count
returns-clause-count c = ap (λ (t : Table). t.count) c.in_ok-table.ensures.table

pub returns-clause-ids_after : goal.returns-clause-ids_after
returns-clause-ids_after c =
    let k = c.in_ok-table.ensures in
    let s = c.args.s.now in
    let R = rules_of c.args.reading in
    let f = table_framed s R k.stop in
    let e = ap (λ (t : Table). t.count) k.table in
    let size = rows-length s _ c.args.rows.now _ e k.rows_after (c.requires f.few).0 in
    let are = rows_are s _ c.args.rows.now _ e k.rows_after (c.requires f.few).0 in
    c.in_ok-check_rows.ensures.ids_after ∙ same_forms R s _ (count s) (row s) (size ∙ e) are _ ∙ ap (λ m. filled c.args.ids.now m (form R (row s))) (table-forms s R k.stop)
