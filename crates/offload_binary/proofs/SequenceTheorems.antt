-- The theorems on sequences of offload binaries. Assumes nothing.
use Rattle.offload_binary.specs.SequenceTheorems.{Theorems}
use Rattle.offload_binary.proofs.ReaderLaws.{accepted_at_end, one_after_another, reads_all, stays}
use Rattle.offload_binary.proofs.WrittenLaws.{good}
use Rattle.offload_binary.proofs.Sequences.{reads_back, lists_back, lays_out, whole}

pub theorems : Theorems
theorems = record {
  accepted_at_end = accepted_at_end;
  one_after_another = one_after_another;
  reads_all = reads_all;
  stays = stays;
  whole = whole;
  lays_out = lays_out;
  reads_back = λ g front rest taken w few within. reads_back g front rest taken (good g w) few within;
  lists_back = lists_back;
}
