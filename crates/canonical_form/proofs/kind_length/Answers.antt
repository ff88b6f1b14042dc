use Rattle.std.proofs.Common.{sym, ◌∙◌, arith, eq-eqb, ne_eqb}
use Rattle.canonical_form.proofs.KeyLaws.{by_bytes, kind-length, kind-short}
use Rattle.canonical_form.proofs.kind_length.Goals as goal

pub bounds-head-0 : goal.bounds-head-0
bounds-head-0 c = omega (arith, (kind-short _ c.requires).0)

pub returns-then-head-eq111 : goal.returns-then-head-eq111
unfolding by_bytes
returns-then-head-eq111 c = sym (kind-length _ c.requires ∙ rw (eq-eqb _ 111 c.if-head-eq111.true))

pub bounds-head-1 : goal.bounds-head-1
bounds-head-1 c = omega (arith, (kind-short _ c.requires).0)

pub returns-then-head-eq111-2 : goal.returns-then-head-eq111-2
unfolding by_bytes
returns-then-head-eq111-2 c = sym (kind-length _ c.requires ∙ rw (ne_eqb _ 111 c.if-head-eq111.false, eq-eqb _ 111 c.if-head-eq111-2.true))

pub bounds-head-3 : goal.bounds-head-3
bounds-head-3 c = omega (arith, (kind-short _ c.requires).0)

pub returns-then-head-eq45 : goal.returns-then-head-eq45
unfolding by_bytes
returns-then-head-eq45 c = sym (kind-length _ c.requires ∙ rw (ne_eqb _ 111 c.if-head-eq111.false, ne_eqb _ 111 c.if-head-eq111-2.false, eq-eqb _ 45 c.if-head-eq45.true))

pub returns : goal.returns
unfolding by_bytes
returns c = sym (kind-length _ c.requires ∙ rw (ne_eqb _ 111 c.if-head-eq111.false, ne_eqb _ 111 c.if-head-eq111-2.false, ne_eqb _ 45 c.if-head-eq45.false))
