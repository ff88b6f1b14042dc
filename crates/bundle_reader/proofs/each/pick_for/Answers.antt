use mathlib.Core.Path.{sym, ap, ◌∙◌}
use borrow.Author.Tests.{not-true}
use Rattle.std.specs.Prelude.{Err}
use Rattle.wire.proofs.Bools.{not_no}
use Rattle.entry_id.specs.IdRules.{IdRules}
use Rattle.bundle_reader.specs.Slots.{choice, image_of}
use Rattle.bundle_reader.proofs.IdLaws.{general_is, taken_new}
use Rattle.bundle_reader.proofs.PickLaws.{choice-query}
use Rattle.bundle_reader.proofs.each.pick_for.Goals as goal

pub returns-then-not-read : goal.returns-then-not-read
returns-then-not-read c =
    let a = c.args in
    let bad = not_no _ (sym c.read.ensures.value ∙ c.if-not-read.true) in
    ap Err c.at.ensures
    ∙ sym (ap (image_of a.rows.now) (choice-query a.ids.now _ bad))
    ∙ ap (λ (R : IdRules). image_of a.rows.now (choice a.ids.now (R.canon a.device.now))) general_is

pub returns : goal.returns
returns c =
    let a = c.args in
    let good = not-true _ (sym c.read.ensures.value ∙ c.if-not-read.false) in
    c.pick_from.ensures
    ∙ ap (λ name. image_of a.rows.now (choice a.ids.now name)) (c.read.ensures.self_after ∙ taken_new _ _ good)
    ∙ ap (λ (R : IdRules). image_of a.rows.now (choice a.ids.now (R.canon a.device.now))) general_is
