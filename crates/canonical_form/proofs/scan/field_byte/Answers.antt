use Rattle.canonical_form.proofs.ClassLaws.{field_letter, field_low, field_digit, field_high}
use Rattle.canonical_form.proofs.scan.field_byte.Goals as goal

-- `scan::field_byte` meets its contract. Assumes nothing.
pub returns-then-b : goal.returns-then-b
returns-then-b c = field_letter c.args.b c.if-b.true

pub returns-then-b-lt46 : goal.returns-then-b-lt46
returns-then-b-lt46 c = field_low c.args.b c.if-b.false c.if-b-lt46.true

pub returns-then-b-le57 : goal.returns-then-b-le57
returns-then-b-le57 c = field_digit c.args.b c.if-b.false c.if-b-lt46.false c.if-b-le57.true

pub returns : goal.returns
returns c = field_high c.args.b c.if-b.false c.if-b-le57.false
