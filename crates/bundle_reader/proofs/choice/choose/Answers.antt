use Rattle.std.specs.Prelude.{Err}
use mathlib.Core.Path.{sym, ap, ◌∙◌}
use lib.ListN.{length}
use borrow.Author.Tests.{eqb-true, eqb-false}
use Rattle.std.specs.Option.{ok_or}
use Rattle.wire.proofs.ByteLaws.{length-empty, length_some}
use Rattle.wire.specs.declared.Reason.TheVariants as reasons
use Rattle.bundle_reader.proofs.PickLaws.{choice-query, choice-of}
use Rattle.bundle_reader.proofs.choice.choose.Goals as goal

pub returns-then-is_empty : goal.returns-then-is_empty
returns-then-is_empty c = ap Err c.at.ensures ∙ sym (choice-query _ _ (length-empty _ (sym (ap length c.text.ensures.value) ∙ eqb-true _ 0 (sym c.is_empty.ensures ∙ c.if-is_empty.true))))

pub returns : goal.returns
returns c =
    c.ok_or.ensures.value
    ∙ ap (ok_or c.first_compatible.result) c.at-2.ensures
    ∙ ap (λ o. ok_or o (record { reason = reasons.None; place = 0 })) c.first_compatible.ensures
    ∙ sym (choice-of _ _ (length_some _ (λ z. eqb-false _ 0 (sym c.is_empty.ensures ∙ c.if-is_empty.false) (ap length c.text.ensures.value ∙ z))))
