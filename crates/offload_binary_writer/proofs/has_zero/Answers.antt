use Rattle.std.proofs.Common.{◌∙◌}
use Rattle.offload_binary_writer.proofs.PartLaws.{zero_ends}
use Rattle.offload_binary_writer.proofs.has_zero.Goals as goal

pub returns : goal.returns
returns c = c.contains.ensures.value ∙ zero_ends c.args.text.now
