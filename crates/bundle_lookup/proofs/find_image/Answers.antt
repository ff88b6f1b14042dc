use mathlib.Core.Path.{sym, ap, ◌∙◌}
use Rattle.entry_id.specs.Rules.{id_rules}
use Rattle.entry_id.proofs.RuleLaws.{id_rules_lawful}
use Rattle.wire.specs.Refusals.{stop_of}
use Rattle.bundle.specs.declared.Picked.{Picked}
use Rattle.bundle_lookup.specs.Answer.{is_refused, answer_of}
use Rattle.bundle_lookup.proofs.AnswerLaws.{found_first, found_main, found_patch, found_second}
use Rattle.bundle_lookup.proofs.find_image.Goals as goal

pub returns-in-Second : goal.returns-in-Second
returns-in-Second c =
    let a = c.args in
    let e = c.in-Second.ensures.turn in
    c.answer.ensures ∙ found_second id_rules id_rules_lawful a.patch.now a.main.now a.device.now e.0 _ e.1

pub returns-then-stops : goal.returns-then-stops
returns-then-stops c =
    let a = c.args in
    let e = c.in-First.ensures.turn in
    c.answer-then-stops.ensures
    ∙ ap (answer_of 1) e.1
    ∙ found_first id_rules id_rules_lawful a.patch.now a.main.now a.device.now e.0 (ap (λ (p : Picked). is_refused p.number) (sym e.1) ∙ sym c.stops.ensures ∙ c.if-stops.true)

pub returns-in-Err : goal.returns-in-Err
returns-in-Err c =
    let a = c.args in
    let e = c.in-First.ensures.turn in
    c.answer-in-Err.ensures
    ∙ found_main id_rules id_rules_lawful a.patch.now a.main.now a.device.now e.0 (ap (λ (p : Picked). is_refused p.number) (sym e.1) ∙ sym c.stops.ensures ∙ c.if-stops.false) _
    (sym (ap stop_of c.in-Err.is) ∙ e.2)

pub returns-in-Ok : goal.returns-in-Ok
returns-in-Ok c =
    let a = c.args in
    let e = c.in-First.ensures.turn in
    c.answer-in-Ok.ensures
    ∙ ap (answer_of 1) e.1
    ∙ found_patch id_rules id_rules_lawful a.patch.now a.main.now a.device.now e.0 (ap (λ (p : Picked). is_refused p.number) (sym e.1) ∙ sym c.stops.ensures ∙ c.if-stops.false)
    (sym (ap stop_of c.in-Ok.is) ∙ e.2)
