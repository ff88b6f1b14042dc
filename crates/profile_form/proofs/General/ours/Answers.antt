use Rattle.std.proofs.Common.{length, refl, ap, arith}
use Rattle.profile_form.proofs.TableLaws.{table-length}
use Rattle.profile_form.proofs.FormLaws.{no_row, primary_in_lem, not-supported, own_primary, with_primary_lem, rename_fits}
use Rattle.profile_form.proofs.General.ours.Goals as goal

pub returns-in_err-k : goal.returns-in_err-k
returns-in_err-k c =
    let q = c.requires in
    let a = c.args.card in
    rw c.from_residual.ensures (no_row _ _ a.kind a.at a.stop _ q.0 q.1 c.in_err-k.ensures c.args.out.now refl)

pub bounds-t-k : goal.bounds-t-k
bounds-t-k c = omega (arith, ap length c.requires.0, table-length, c.in_ok-k.ensures.1)

pub returns-then-not-all_supported : goal.returns-then-not-all_supported
returns-then-not-all_supported c =
    let q = c.requires in
    let a = c.args.card in
    let k = c.in_ok-k.ensures in
    not-supported _ _ a.kind a.at a.stop _ q.0 q.1 k.0 k.1 _ c.all_supported.ensures c.args.out.now c.if-not-all_supported.true

pub returns-then-row-k : goal.returns-then-row-k
returns-then-row-k c =
    let q = c.requires in
    let a = c.args.card in
    let k = c.in_ok-k.ensures in
    own_primary _ _ a.kind a.at a.stop _ q.0 q.1 k.0 k.1 _ c.all_supported.ensures c.args.out.now _ _ c.if-not-all_supported.false c.if-row-k.true c.keep.ensures

pub name_at-requires : goal.name_at-requires
name_at-requires c =
    let q = c.requires in
    let a = c.args.card in
    let k = c.in_ok-k.ensures in
    (q.0, primary_in_lem _ _ a.kind a.at a.stop _ q.0 q.1 k.0 k.1)

pub rename-requires : goal.rename-requires
rename-requires c =
    let q = c.requires in
    let a = c.args.card in
    let k = c.in_ok-k.ensures in
    rename_fits _ _ a.kind a.at a.stop _ q.0 q.1 k.0 k.1 _ c.name_at.ensures

pub returns : goal.returns
returns c =
    let q = c.requires in
    let a = c.args.card in
    let k = c.in_ok-k.ensures in
    with_primary_lem _ _ a.kind a.at a.stop _ q.0 q.1 k.0 k.1 _ c.all_supported.ensures _ c.args.out.now _ _ c.if-not-all_supported.false c.name_at.ensures c.rename.ensures
