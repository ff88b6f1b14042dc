use mathlib.Core.Path.{◌∙◌, sym}
use Rattle.wire.proofs.TabLaws.{length_tab}
use Rattle.normal_form.specs.Code.{first_given}
use Rattle.normal_form.proofs.GivenLaws.{listed_sorted}
use Rattle.normal_form.proofs.sorted_entries.Goals as goal

pub returns : goal.returns
unfolding first_given
returns c =
    let e = c.list_entries-count in
    listed_sorted e.new.entries _ e.result _ (length_tab _ _ ∙ sym e.ensures.count) e.ensures.entries_after c.rising_order.new.entries c.rising_order.ensures
