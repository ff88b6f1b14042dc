use native.Mathlib.Omega.{arith}
use mathlib.Core.Path.{sym, ap, ◌∙◌}
use lib.ListN.{length}
use Rattle.wire.specs.Refusals.{stop_of}
use Rattle.entry_id.specs.Rules.{rules_of}
use Rattle.entry_id.proofs.RuleLaws.{rules_lawful}
use Rattle.normal_form.proofs.GivenLaws.{sorted_short}
use Rattle.normal_form.proofs.NormaliseLaws.{read_ok, normal_refused, normalised_refused, counted, room_for, sorted-values, accepted-answer, accepted-bytes}
use Rattle.normal_form.proofs.normalise_in.Goals as goal

pub slice_bounds-sorted_entries-end : goal.slice_bounds-sorted_entries-end
slice_bounds-sorted_entries-end c = let e = c.examine.ensures in sym (counted _ _ _ _ (read_ok _ _ _ _ _ _ c.in-Ok.is e.stop e.value e.ids_after e.ids_len))

pub slice_bounds-write_entries-end : goal.slice_bounds-write_entries-end
slice_bounds-write_entries-end c =
    let e = c.examine.ensures in
    let r = read_ok _ _ _ _ _ _ c.in-Ok.is e.stop e.value e.ids_after e.ids_len in
    omega (arith, room_for _ _ _ _ r _ c.requires, c.sorted_entries.auto.entries)

pub write_entries-requires : goal.write_entries-requires
write_entries-requires c =
    let e = c.examine.ensures in
    let r = read_ok _ _ _ _ _ _ c.in-Ok.is e.stop e.value e.ids_after e.ids_len in
    let q = sorted-values _ _ _ _ r _ _ _ (room_for _ _ _ _ r _ c.requires) c.sorted_entries.ensures in
    sorted_short _ (rules_lawful _) _ _ _ _ q

pub returns-in-Ok : goal.returns-in-Ok
returns-in-Ok c =
    let e = c.examine.ensures in
    let r = read_ok _ _ _ _ _ _ c.in-Ok.is e.stop e.value e.ids_after e.ids_len in
    let q = sorted-values _ _ _ _ r _ _ _ (room_for _ _ _ _ r _ c.requires) c.sorted_entries.ensures in
    let w = c.write_entries.ensures in
    let out = c.args.out.now in
    record { value = w.value ∙ accepted-answer _ _ _ _ r _ q (length out); out_after = w.out_after ∙ accepted-bytes _ _ _ _ r _ q out }

pub shared_ref_as_front-sorted_entries : goal.shared_ref_as_front-sorted_entries
shared_ref_as_front-sorted_entries c = let e = c.examine.ensures in (read_ok _ _ _ _ _ _ c.in-Ok.is e.stop e.value e.ids_after e.ids_len).says.few

pub returns-in-Err : goal.returns-in-Err
returns-in-Err c =
    let a = c.args in
    let r = c.in-Err.refusal in
    let x = sym (ap stop_of c.in-Err.is) ∙ c.examine.ensures.stop in
    record { value = normal_refused (rules_of a.reading) a.bundle.now r x (length a.out.now); out_after = normalised_refused (rules_of a.reading) a.bundle.now r x a.out.now }
