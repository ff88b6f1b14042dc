use mathlib.Core.Path.{sym, ap, ◌∙◌}
use Rattle.wire.specs.Refusals.{number_of, stop_of}
use Rattle.entry_id.specs.Rules.{id_rules}
use Rattle.bundle.proofs.ReportLaws.{long-number}
use Rattle.bundle_compare.proofs.ReadLaws.{read-refused, rows_few, read-sorted}
use Rattle.bundle_compare.proofs.read.Goals as goal

pub returns-then-s-gt-COMPARE_LIMIT : goal.returns-then-s-gt-COMPARE_LIMIT
returns-then-s-gt-COMPARE_LIMIT c = ap (λ r. number_of r.reason) c.at.ensures ∙ sym (long-number id_rules c.args.s.now c.if-s-gt-COMPARE_LIMIT.true)

pub returns-in-Err : goal.returns-in-Err
returns-in-Err c = read-refused _ c.if-s-gt-COMPARE_LIMIT.false _ (sym (ap stop_of c.in-Err.is) ∙ c.examine.ensures.stop)

pub shared_ref_as_front-sorted_entries : goal.shared_ref_as_front-sorted_entries
shared_ref_as_front-sorted_entries c = let e = c.examine.ensures in rows_few _ c.if-s-gt-COMPARE_LIMIT.false _ _ _ _ c.in-Ok.is e.stop e.value e.ids_after e.ids_len

pub returns-in-Ok : goal.returns-in-Ok
returns-in-Ok c =
    let e = c.examine.ensures in
    read-sorted _ c.if-s-gt-COMPARE_LIMIT.false _ _ _ _ c.in-Ok.is e.stop e.value e.ids_after e.ids_len _ _ _ c.requires c.sorted_entries.auto.entries c.sorted_entries.ensures
