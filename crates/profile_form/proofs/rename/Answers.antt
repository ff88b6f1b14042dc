use native.Mathlib.Omega.{arith}
use mathlib.Core.Path.{sym}
use lib.Seq.{length-take-le}
use Rattle.profile_form.specs.Parts.{renamed}
use Rattle.profile_form.proofs.WriteLaws.{renamed-long, limit-none, limit-short, renamed-made}
use Rattle.profile_form.proofs.rename.Goals as goal

-- `profile_form::rename` meets its contract. Assumes nothing.
pub returns-then-length-gt256 : goal.returns-then-length-gt256
returns-then-length-gt256 c =
    let a = c.args in
    let q = c.requires in
    limit-none (renamed a.x.now a.card.at a.card.stop a.p.now) a.out.now (omega (arith, renamed-long a.x.now a.card.at a.card.stop a.p.now q.low q.high))

pub returns-then-out-length : goal.returns-then-out-length
returns-then-out-length c =
    let a = c.args in
    let q = c.requires in
    let l = renamed-long a.x.now a.card.at a.card.stop a.p.now q.low q.high in
    limit-short (renamed a.x.now a.card.at a.card.stop a.p.now) a.out.now (omega (arith, l)) (omega (arith, l))

pub slice_bounds-copy_at-end : goal.slice_bounds-copy_at-end
slice_bounds-copy_at-end c =
    let a = c.args in
    let q = c.requires in
    sym (length-take-le a.card.at a.x.now (omega (arith, q.low, q.high)))

pub returns : goal.returns
returns c =
    let a = c.args in
    let q = c.requires in
    let first = c.copy_at in
    let second = c.copy_at-2 in
    let third = c.copy_at-3 in
    renamed-made a.x.now a.card.kind a.card.at a.card.stop a.p.now q a.out.now first.new.out second.new.out third.new.out (omega arith) (omega arith) first.ensures second.ensures third.ensures c.key_behind-key.result c.key_behind-key.ensures
