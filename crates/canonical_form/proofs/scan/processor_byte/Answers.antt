use Rattle.entry_id.specs.Meaning.{processor_byte}
use Rattle.canonical_form.proofs.scan.processor_byte.Goals as goal

pub returns : goal.returns
unfolding processor_byte
returns c = rw c.field_byte.ensures
