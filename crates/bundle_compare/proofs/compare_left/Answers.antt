use Rattle.bundle_reader.proofs.RefusalLaws.{some_number}
use Rattle.bundle_compare.proofs.CompareLaws.{reported_as, left-report}
use Rattle.bundle_compare.proofs.compare_left.Goals as goal

pub returns-in-Err : goal.returns-in-Err
returns-in-Err c =
    let r = reported_as _ _ _ _ _ _ (left-report _ _ _ (some_number c.in-Err.refusal.reason) c.in-Err.ensures) c.write_refused.ensures in
    record { value = r.0; out_after = r.1 }
