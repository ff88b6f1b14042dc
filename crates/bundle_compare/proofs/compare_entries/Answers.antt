use Rattle.bundle_reader.proofs.RefusalLaws.{some_number}
use Rattle.bundle_compare.proofs.CompareLaws.{reported_as, right-report}
use Rattle.bundle_compare.proofs.compare_entries.Goals as goal

pub returns-in-Err : goal.returns-in-Err
returns-in-Err c = record {
  value = λ a l. (reported_as a _ _ _ _ _ (right-report a _ _ l.goes (some_number c.in-Err.refusal.reason) c.in-Err.ensures) c.write_refused.ensures).0;
  out_after = λ a l. (reported_as a _ _ _ _ _ (right-report a _ _ l.goes (some_number c.in-Err.refusal.reason) c.in-Err.ensures) c.write_refused.ensures).1;
}

pub returns-then-left-count-le16 : goal.returns-then-left-count-le16
returns-then-left-count-le16 c = let e = c.report_differences.ensures in record { value = λ a l. e.value a _ l c.in-Ok.ensures.1; out_after = λ a l. e.out_after a _ l c.in-Ok.ensures.1 }

pub returns-else-left-count-le16 : goal.returns-else-left-count-le16
returns-else-left-count-le16 c = let e = c.report_differences-in-Ok.ensures in record { value = λ a l. e.value a _ l c.in-Ok.ensures.1; out_after = λ a l. e.out_after a _ l c.in-Ok.ensures.1 }
