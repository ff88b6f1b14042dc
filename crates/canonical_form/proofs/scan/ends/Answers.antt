use Rattle.entry_id.specs.Scan.{ends_at}
use Rattle.std.proofs.Common.{eqb, sym, ap, arith}
use Rattle.canonical_form.proofs.scan.ends.Goals as goal

pub returns-in-Some : goal.returns-in-Some
unfolding ends_at
returns-in-Some c = let k = c.in-Some.ensures.lookup in rw (sym k.0) (ap (λ b. eqb b 58) (k.4 (omega arith) 0))

pub returns-in-None : goal.returns-in-None
unfolding ends_at
returns-in-None c = rw (sym c.in-None.ensures.lookup.0)
