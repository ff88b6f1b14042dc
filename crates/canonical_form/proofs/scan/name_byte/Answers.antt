use Rattle.canonical_form.proofs.ClassLaws.{name_letter, name_low, name_high}
use Rattle.canonical_form.proofs.scan.name_byte.Goals as goal

-- `scan::name_byte` meets its contract. Assumes nothing.
pub returns-then-b : goal.returns-then-b
returns-then-b c = name_letter c.args.b c.if-b.true

pub returns-then-b-le57 : goal.returns-then-b-le57
returns-then-b-le57 c = name_low c.args.b c.if-b.false c.if-b-le57.true

pub returns : goal.returns
returns c = name_high c.args.b c.if-b.false c.if-b-le57.false
