-- What holds of every call of the binary writer that is not refused. Statements only: `Theorems` is proved in proofs/WriterTheorems.antt.
use Rattle.std.specs.Prelude.{ℕ, ◌^◌, ◌<◌, ◌≤◌, ◌≡◌, List, ◌++◌, length, take, drop}
use Rattle.wire.specs.Limit.{limit}
use Rattle.offload_binary.specs.Contents.{written}
use Rattle.offload_binary.specs.Theorems.{Writable}
use Rattle.offload_binary.specs.declared.StringPair.{StringPair}
use Rattle.offload_binary.specs.SequenceTheorems.{ReadsBack}
use Rattle.offload_binary.specs.Writer.{given, Output, write}
use Rattle.offload_binary.specs.declared.Tags.{Tags}

module _ (tags : Tags) (image : List ℕ) (pairs : List StringPair) (buf out : List ℕ) where
  abbrev wrote : Output
  wrote = write tags image pairs buf out

  pub record WritesAndReads : Type 0 where
    -- the bytes written, and the bytes beyond them
    pub bytes : take wrote.answer.len wrote.out ≡ written (given tags image pairs buf)
    pub beyond : drop wrote.answer.len wrote.out ≡ drop wrote.answer.len out
    -- they may be laid end to end with others: SequenceTheorems.antt has that such a sequence reads back as the list
    pub lays : Writable (given tags image pairs buf)
    -- anywhere in a sequence they read back as the kinds, flags, image, keys and texts given, in order
    pub reads : (front rest : List ℕ) (taken : ℕ) → taken < 64 → length (front ++ (written (given tags image pairs buf) ++ rest)) ≤ limit → ReadsBack (given tags image pairs buf) front rest taken

pub record Theorems : Type 0 where
  -- flags are 4 bytes, as the code's type has them
  pub writes_and_reads : (tags : Tags) (image : List ℕ) (pairs : List StringPair) (buf out : List ℕ) → tags.flags < 256 ^ 4 → (write tags image pairs buf out).answer.number ≡ 0 → WritesAndReads tags image pairs buf out
