-- The reader that holds the lent bytes: what a call answers, and the reader after it. Definitions only.
use Rattle.offload_binary.specs.Reader.{next}
use Rattle.offload_binary.specs.declared.Answer.{Answer}
use Rattle.offload_binaries.specs.declared.Reader.{Reader}

unfoldable pub answered : Reader → Answer
answered r = (next r.bytes.now r.cursor).answer

-- the same bytes, and the cursor where the call leaves it
unfoldable pub moved : Reader → Reader
moved r = record { bytes = r.bytes; cursor = (next r.bytes.now r.cursor).cursor }
