use Rattle.std.proofs.Common.{ap, ◌∙◌}
use Rattle.wire.specs.Bytes.{overwrite}
use Rattle.wire.proofs.WordLaws.{bytes_of_le}
use Rattle.wire_write.proofs.put_word8.Goals as goal

pub returns : goal.returns
returns c =
    let a = c.args in
    c.copy_at.ensures ∙ ap (overwrite a.out.now a.at) (c.to_le_bytes-bytes.ensures ∙ bytes_of_le a.v)
