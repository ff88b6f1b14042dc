use Rattle.bundle_compare.proofs.ReadLaws.{read-short, read-rising}
use Rattle.bundle_compare.proofs.CompareLaws.{reported_as, found-report}
use Rattle.bundle_compare.proofs.report_differences.Goals as goal

pub find_differences-count-requires-clause-short : goal.find_differences-count-requires-clause-short
find_differences-count-requires-clause-short c = (read-short _ _ c.requires.known.0.1, read-short _ _ c.requires.known.1.1)

pub find_differences-count-requires-clause-rising : goal.find_differences-count-requires-clause-rising
find_differences-count-requires-clause-rising c = (read-rising _ _ c.requires.known.0.1, read-rising _ _ c.requires.known.1.1)

pub returns : goal.returns
returns c =
    let w = c.write_differences.ensures in
    record {
      value = λ a b l r. (reported_as a b _ _ _ _ (found-report a b _ _ _ l.goes r.goes l.are r.are c.find_differences-count.ensures.value) w).0;
      out_after = λ a b l r. (reported_as a b _ _ _ _ (found-report a b _ _ _ l.goes r.goes l.are r.are c.find_differences-count.ensures.value) w).1;
    }
