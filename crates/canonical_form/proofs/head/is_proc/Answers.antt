use Rattle.std.proofs.Common.{sym, arith}
use Rattle.entry_id.proofs.RunLaws.{short_proc}
use Rattle.canonical_form.proofs.ClassLaws.{proc_g, proc_s}
use Rattle.canonical_form.proofs.head.is_proc.Goals as goal

-- `head::is_proc` meets its contract. Assumes nothing.
pub returns-then-f-lt3 : goal.returns-then-f-lt3
returns-then-f-lt3 c = sym (short_proc c.args.f.now c.if-f-lt3.true)

pub returns-then-f-eq103 : goal.returns-then-f-eq103
returns-then-f-eq103 c = proc_g c.args.f.now (omega arith) c.if-f-eq103.true

pub returns : goal.returns
returns c = proc_s c.args.f.now (omega arith) c.if-f-eq103.false
