use Rattle.std.proofs.Common.{sym, ◌∙◌, arith}
use Rattle.entry_id.proofs.RunLaws.{run_none, run_more}
use Rattle.canonical_form.proofs.scan.run_end.Goals as goal

pub loop-i-init : goal.loop-i-init
loop-i-init g c = λ class f. run_none class c.args.x.now c.args.from

pub loop-i-preserved : goal.loop-i-preserved
loop-i-preserved g c = λ class f.
    let l = c.loop-i in
    run_more class c.args.x.now c.args.from l.i (omega arith) (omega arith) (l.invariant class f) (sym (f _ _ c.in_class.ensures) ∙ c.if-not-in_class.false)
