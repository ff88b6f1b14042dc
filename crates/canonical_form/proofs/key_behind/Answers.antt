use Rattle.std.proofs.Common.{◌+◌, ◌%◌, ◌^◌, ◌∙◌, ap₂}
use Rattle.canonical_form.proofs.KeyLaws.{five_as_three, others_as_spelled}
use Rattle.canonical_form.proofs.key_behind.Goals.{then-kind-eq-HIPV4, else-kind-eq-HIPV4}
use Rattle.canonical_form.proofs.key_behind.Goals as goal

pub returns : goal.returns
returns c =
    ap₂ (λ n m. (n + m) % 2 ^ 64) c.head_number.ensures
    (elim c.if-kind-eq-HIPV4.branch [
      | then-kind-eq-HIPV4 w ↦ w.compared-is ∙ five_as_three _ w.if-kind-eq-HIPV4.true
      | else-kind-eq-HIPV4 w ↦ w.compared-is ∙ others_as_spelled _ w.if-kind-eq-HIPV4.false
    ])
