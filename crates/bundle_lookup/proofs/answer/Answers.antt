use mathlib.Core.Path.{sym, ap, ◌∙◌}
use Prim.Native.Nat.{ℕ}
use Rattle.std.specs.Bool.{then_some}
use Rattle.wire.specs.Refusals.{number_of}
use Rattle.bundle.specs.Results.{picked_of, source_number, named_number}
use Rattle.bundle_lookup.specs.Answer.{named_by, answer_of}
use Rattle.bundle_lookup.proofs.AnswerLaws.{named_is}
use Rattle.bundle_lookup.proofs.answer.Goals as goal

pub returns-in-Ok : goal.returns-in-Ok
unfolding answer_of named_by
returns-in-Ok c = sym (ap (λ p. answer_of (source_number c.args.source) (picked_of p)) c.in-Ok.is)

pub returns-in-Err : goal.returns-in-Err
unfolding answer_of
returns-in-Err c =
    let r = c.in-Err.refusal in
    ap (λ (k : ℕ). record { number = number_of r.reason; place = r.place; bundle = k; position = 0; size = 0 })
    (ap named_number (c.then_some.ensures ∙ ap (λ b. then_some b c.args.source) c.of_check.ensures) ∙ named_is r.reason c.args.source)
    ∙ sym (ap (λ p. answer_of (source_number c.args.source) (picked_of p)) c.in-Err.is)
