use native.Mathlib.Omega.{arith}
use mathlib.Core.Path.{◌≡◌, ap, ap₂, ◌∙◌}
use lib.ListN.{length}
use Rattle.wire.specs.Stop.{over}
use Rattle.bundle.specs.Records.{record_at}
use Rattle.bundle_reader.proofs.EachLaws.{over_none}
use Rattle.bundle_reader.proofs.IdLaws.{item_is}
use Rattle.normal_form.specs.Code.{values, entry_at, listed, first_given}
use Rattle.normal_form.proofs.GivenLaws.{listed_more}
use Rattle.normal_form.proofs.list_entries.Goals as goal

pub loop-i-init : goal.loop-i-init
loop-i-init c = over_none _ _

pub loop-i-preserved : goal.loop-i-preserved
unfolding record_at entry_at
loop-i-preserved c =
    let a = c.args in
    let l = c.loop-i in
    listed_more l.entries a.entries.now l.i _ (entry_at a.src.now a.records.now a.ids.now) (omega arith)
    (ap₂ (λ x y. record { id = x; image = y }) (c.text.ensures.value ∙ item_is a.ids.now l.i c.index-ids-i.result (omega arith) c.index-ids-i.is) c.image_of.ensures)
    l.invariant

pub returns-clause-entries_after : goal.returns-clause-entries_after
unfolding first_given
returns-clause-entries_after c =
    let a = c.args in
    let e : c.loop-i.i ≡ listed a.records.now a.ids.now (length a.entries.now) = omega arith in
    c.loop-i.invariant ∙ ap (λ n. over (first_given n a.src.now a.records.now a.ids.now) (values a.entries.now)) e
