use mathlib.Core.Path.{sym, ap, ◌∙◌}
use borrow.Author.Tests.{eqb-true, eqb-false}
use Rattle.bundle.specs.Check.{bundle_stop}
use Rattle.bundle.specs.Pick.{pick}
use Rattle.bundle.specs.declared.Picked.{Picked}
use Rattle.bundle_reader.proofs.IdLaws.{general_is}
use Rattle.bundle_reader.proofs.turn.pick_in_turn_in.Goals as goal

pub returns-then-says_none : goal.returns-then-says_none
returns-then-says_none c =
    let a = c.args in
    let first = c.pick_named_in-picked.ensures _ c.of-name.ensures ∙ ap (λ R. pick R a.first.now a.device.now) general_is in (
      ap (λ (p : Picked). p.number) (sym first) ∙ eqb-true _ 10 (sym c.says_none.ensures ∙ c.if-says_none.true),
      c.pick_named_in.ensures _ c.of-name.ensures ∙ ap (λ R. pick R a.second.now a.device.now) general_is,
    )

pub returns : goal.returns
returns c =
    let a = c.args in
    let first = c.pick_named_in-picked.ensures _ c.of-name.ensures ∙ ap (λ R. pick R a.first.now a.device.now) general_is in (
      (λ e. eqb-false _ 10 (sym c.says_none.ensures ∙ c.if-says_none.false) (ap (λ (p : Picked). p.number) first ∙ e)),
      first,
      c.check_in-checked.ensures.stop ∙ ap (λ R. bundle_stop R a.second.now) general_is,
      c.check_in-checked.ensures.count,
    )
