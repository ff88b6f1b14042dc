use native.Mathlib.Omega.{arith}
use mathlib.Core.Path.{ap, ◌∙◌}
use lib.ListN.{length}
use Rattle.std.proofs.Common.{Err}
use Rattle.std.proofs.lemmas.Result.{err_from_is_err_and}
use Rattle.entry_id.specs.Rules.{id_rules}
use Rattle.entry_id.proofs.RuleLaws.{id_rules_lawful}
use Rattle.bundle.specs.Results.{written_of}
use Rattle.bundle_reader.proofs.ExamineLaws.{records_say}
use Rattle.normal_form.proofs.GivenLaws.{given_short}
use Rattle.normal_form.proofs.WriterLaws.{write_refused, written_refused, listed-values, accepted-answer, accepted-bytes}
use Rattle.normal_form.proofs.write_bundle.Goals as goal

pub returns-in_err-examine_records : goal.returns-in_err-examine_records
returns-in_err-examine_records c =
    let a = c.args in
    let e = err_from_is_err_and c.from_residual.result c.from_residual.ensures.1 in
    let x = c.in_err-examine_records.ensures.stop in
    record {
      value = ap written_of e.1 ∙ ap (λ r. written_of (Err r)) e.2 ∙ write_refused id_rules a.records.now a.ids.now a.images.now c.in_err-examine_records.field-0.0 x (length a.out.now);
      out_after = written_refused id_rules a.records.now a.ids.now a.images.now c.in_err-examine_records.field-0.0 x a.out.now;
    }

pub write_entries-requires : goal.write_entries-requires
write_entries-requires c =
    let e = c.in_ok-examine_records.ensures in
    let j = records_say _ _ _ _ _ _ e.stop e.ids_after e.ids_len in
    given_short id_rules id_rules_lawful _ _ _ _ (listed-values id_rules c.args.records.now _ _ e.stop _ j _ _ _ 64 (omega arith) c.list_entries-count.ensures.count c.list_entries-count.ensures.entries_after)

pub returns : goal.returns
returns c =
    let e = c.in_ok-examine_records.ensures in
    let j = records_say _ _ _ _ _ _ e.stop e.ids_after e.ids_len in
    let q = listed-values id_rules c.args.records.now _ _ e.stop _ j _ _ _ 64 (omega arith) c.list_entries-count.ensures.count c.list_entries-count.ensures.entries_after in
    let w = c.write_entries.ensures in
    let out = c.args.out.now in
    record { value = w.value ∙ accepted-answer _ _ _ _ e.stop _ j _ q (length out); out_after = w.out_after ∙ accepted-bytes _ _ _ _ e.stop _ j _ q out }
