use Rattle.std.specs.Prelude.{Err}
use native.Mathlib.Omega.{arith}
use mathlib.Core.Path.{sym, ap, ◌∙◌}
use mathlib.Core.List.{[]}
use lib.ListN.{get_or, take}
use Rattle.std.proofs.lemmas.Result.{err_from_is_err_and}
use Rattle.wire.specs.declared.Reason.TheVariants as reasons
use Rattle.entry_id.specs.Rules.{id_rules}
use Rattle.bundle.specs.Check.{bundle_stop}
use Rattle.bundle.specs.Each.{part_of, pick_at}
use Rattle.bundle.specs.Pick.{pick}
use Rattle.bundle.specs.Results.{picked_of, picked_each_of}
use Rattle.bundle_reader.specs.Slots.{choice, image_of, picked_at}
use Rattle.bundle_reader.proofs.CheckLaws.{check_few}
use Rattle.bundle_reader.proofs.IdLaws.{general_is}
use Rattle.bundle_reader.proofs.RowLaws.{rows_room, rows-length}
use Rattle.bundle_reader.proofs.PickLaws.{ids_room, ids-length, picked_is}
use Rattle.bundle_reader.proofs.EachLaws.{each_by, each_many, each_room, each-refused, each-kept_by, each_filled, each_after}
use Rattle.bundle_reader.proofs.each.pick_each_in.Goals as goal

pub returns-in_err-n-clause-value : goal.returns-in_err-n-clause-value
returns-in_err-n-clause-value c =
    let a = c.args in
    let p = err_from_is_err_and c.from_residual.result c.from_residual.ensures.1 in
    rw (p.1, p.2)
    (each-refused id_rules a.bundle.now a.buffer.now a.names.now a.slots.now _
    (each_by id_rules _ _ _ _ _ (c.in_err-n.ensures.stop ∙ ap (λ R. bundle_stop R a.bundle.now) general_is)))

pub returns-in_err-n-clause-slots_after : goal.returns-in_err-n-clause-slots_after
returns-in_err-n-clause-slots_after c =
    let a = c.args in
    each-kept_by id_rules a.bundle.now a.buffer.now a.names.now a.slots.now _
    (each_by id_rules _ _ _ _ _ (c.in_err-n.ensures.stop ∙ ap (λ R. bundle_stop R a.bundle.now) general_is))

pub returns-then-names-gt16-clause-value : goal.returns-then-names-gt16-clause-value
returns-then-names-gt16-clause-value c =
    let a = c.args in
    let go = c.in_ok-n.ensures.stop ∙ ap (λ R. bundle_stop R a.bundle.now) general_is in
    ap (λ r. picked_each_of (Err r)) c.at.ensures
    ∙ each-refused id_rules a.bundle.now a.buffer.now a.names.now a.slots.now (record { reason = reasons.Names; place = 0 }) (each_many id_rules _ _ _ a.slots.now go c.if-names-gt16.true)

pub returns-then-names-gt16-clause-slots_after : goal.returns-then-names-gt16-clause-slots_after
returns-then-names-gt16-clause-slots_after c =
    let a = c.args in
    let go = c.in_ok-n.ensures.stop ∙ ap (λ R. bundle_stop R a.bundle.now) general_is in
    each-kept_by id_rules a.bundle.now a.buffer.now a.names.now a.slots.now (record { reason = reasons.Names; place = 0 }) (each_many id_rules _ _ _ a.slots.now go c.if-names-gt16.true)

pub returns-then-slots-names-clause-value : goal.returns-then-slots-names-clause-value
returns-then-slots-names-clause-value c =
    let a = c.args in
    let go = c.in_ok-n.ensures.stop ∙ ap (λ R. bundle_stop R a.bundle.now) general_is in
    ap (λ r. picked_each_of (Err r)) c.at-then-slots-names.ensures
    ∙ each-refused id_rules a.bundle.now a.buffer.now a.names.now a.slots.now (record { reason = reasons.Room; place = 0 }) (each_room id_rules _ _ _ a.slots.now go c.if-names-gt16.false c.if-slots-names.true)

pub returns-then-slots-names-clause-slots_after : goal.returns-then-slots-names-clause-slots_after
returns-then-slots-names-clause-slots_after c =
    let a = c.args in
    let go = c.in_ok-n.ensures.stop ∙ ap (λ R. bundle_stop R a.bundle.now) general_is in
    each-kept_by id_rules a.bundle.now a.buffer.now a.names.now a.slots.now (record { reason = reasons.Room; place = 0 }) (each_room id_rules _ _ _ a.slots.now go c.if-names-gt16.false c.if-slots-names.true)

pub slice_bounds-fill_slots-end : goal.slice_bounds-fill_slots-end
slice_bounds-fill_slots-end c =
    let k = c.in_ok-n.ensures in
    rows_room _ _ c.args.rows.now _ k.count k.rows_after (c.requires (check_few _ _ k.stop)).0

pub slice_bounds-fill_slots-end-2 : goal.slice_bounds-fill_slots-end-2
slice_bounds-fill_slots-end-2 c =
    let k = c.in_ok-n.ensures in
    sym (rows-length _ _ c.args.rows.now _ k.count k.rows_after (c.requires (check_few _ _ k.stop)).0)

pub slice_bounds-fill_slots-end-3 : goal.slice_bounds-fill_slots-end-3
slice_bounds-fill_slots-end-3 c =
    let k = c.in_ok-n.ensures in
    ids_room _ _ k.stop _ k.count _ _ _ _ (c.requires (check_few _ _ k.stop)) k.rows_after k.ids_after

pub slice_bounds-fill_slots-end-4 : goal.slice_bounds-fill_slots-end-4
slice_bounds-fill_slots-end-4 c =
    let k = c.in_ok-n.ensures in
    sym (ids-length _ _ k.stop _ k.count _ _ _ _ (c.requires (check_few _ _ k.stop)) k.rows_after k.ids_after)

pub fill_slots-word-requires-clause-few : goal.fill_slots-word-requires-clause-few
fill_slots-word-requires-clause-few c =
    let k = c.in_ok-n.ensures in
    let few = check_few _ _ k.stop in
    let rows = rows-length _ _ c.args.rows.now _ k.count k.rows_after (c.requires few).0 in
    let ids = ids-length _ _ k.stop _ k.count _ _ _ _ (c.requires few) k.rows_after k.ids_after in
    (omega (arith, rows, ids), omega (arith, ids, k.count, few))

pub returns-clause-value : goal.returns-clause-value
unfolding picked_at pick_at
returns-clause-value c =
    let a = c.args in
    let k = c.in_ok-n.ensures in
    let s = a.bundle.now in
    let rows = take c.in_ok-n.n c.check_in.new.rows in
    let ids = take c.in_ok-n.n c.check_in.new.ids in
    let go = k.stop ∙ ap (λ R. bundle_stop R s) general_is in
    each_filled id_rules s a.buffer.now a.names.now a.slots.now go c.if-names-gt16.false c.if-slots-names.false (picked_at rows ids a.buffer.now a.names.now)
    (λ j.
    let part = part_of a.buffer.now (get_or a.names.now j []) in
    ap (λ R. picked_of (image_of rows (choice ids (R.canon part)))) (sym general_is)
    ∙ picked_is _ _ k.stop _ k.count _ _ _ _ (c.requires (check_few _ _ k.stop)) k.rows_after k.ids_after part
    ∙ ap (λ R. pick R s part) general_is)
    _ c.fill_slots-word.ensures.word

pub returns-clause-slots_after : goal.returns-clause-slots_after
unfolding picked_at pick_at
returns-clause-slots_after c =
    let a = c.args in
    let k = c.in_ok-n.ensures in
    let s = a.bundle.now in
    let rows = take c.in_ok-n.n c.check_in.new.rows in
    let ids = take c.in_ok-n.n c.check_in.new.ids in
    let go = k.stop ∙ ap (λ R. bundle_stop R s) general_is in
    each_after id_rules s a.buffer.now a.names.now a.slots.now go c.if-names-gt16.false c.if-slots-names.false (picked_at rows ids a.buffer.now a.names.now)
    (λ j.
    let part = part_of a.buffer.now (get_or a.names.now j []) in
    ap (λ R. picked_of (image_of rows (choice ids (R.canon part)))) (sym general_is)
    ∙ picked_is _ _ k.stop _ k.count _ _ _ _ (c.requires (check_few _ _ k.stop)) k.rows_after k.ids_after part
    ∙ ap (λ R. pick R s part) general_is)
    _ c.fill_slots-word.ensures.slots_after
