use Rattle.std.proofs.Common.{ap}
use Rattle.std.proofs.lemmas.Result.{err_from_is_err_and}
use Rattle.offload_binaries.specs.Held.{answered, moved}
use Rattle.offload_binaries.proofs.Reader.next.Goals as goal

pub returns-in_err-binary : goal.returns-in_err-binary
unfolding answered moved
returns-in_err-binary c =
    let p = err_from_is_err_and c.from_residual.result c.from_residual.ensures.1 in
    (rw (p.1, p.2) (ap (λ t. t.answer) c.in_err-binary.ensures), ap (λ t. record { bytes = c.args.self.now.bytes; cursor = t.cursor }) c.in_err-binary.ensures)

pub returns : goal.returns
unfolding answered moved
returns c =
    (ap (λ t. t.answer) c.in_ok-binary.ensures, ap (λ t. record { bytes = c.args.self.now.bytes; cursor = t.cursor }) c.in_ok-binary.ensures)
