-- The report fits the buffer that is lent for it.
use Rattle.std.proofs.Common.{◌≡◌, ℕ, ◌≤◌, List, length, sym, arith}
use Rattle.std.proofs.Math.Seq.{length-take-le}
use Rattle.entry_id.specs.Rules.{id_rules}
use Rattle.entry_id.proofs.RuleLaws.{id_rules_lawful}
use Rattle.bundle.specs.Differences.{report}
use Rattle.bundle.proofs.ReportLaws.{report-fits}
use Rattle.offload_compare.proofs.main.Goals as goal

fits : (a b : List ℕ) (len : ℕ) → len ≡ length (report id_rules a b) → len ≤ 33168
fits a b len e = omega (arith, report-fits id_rules id_rules_lawful a b)

pub slice_bounds-text-end : goal.slice_bounds-text-end
slice_bounds-text-end c = omega (arith, fits _ _ _ c.compare-len.ensures.value)

pub slice_bounds-write_all-end : goal.slice_bounds-write_all-end
slice_bounds-write_all-end c = sym (length-take-le _ _ (omega (arith, fits _ _ _ c.compare-len.ensures.value)))
