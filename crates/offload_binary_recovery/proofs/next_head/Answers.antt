use mathlib.Core.Path.{sym}
use Rattle.offload_binary_recovery.proofs.SearchLaws.{none_more, passes-not}
use Rattle.offload_binary_recovery.proofs.next_head.Goals as goal

pub loop-p-preserved : goal.loop-p-preserved
loop-p-preserved c = let l = c.loop-p in λ i a h. none_more c.args.s.now l.p i (λ m. l.invariant i a m) (sym (passes-not c.args.s.now l.p _ c.word_at.ensures.0 c.if-word_at-eq-HEAD.false)) h
