-- The theorem on the binary writer. Assumes nothing.
use Prim.Native.Nat.{ℕ, zero, suc, ◌^◌, ◌<◌}
use mathlib.Core.Path.{◌≡◌, refl, sym, ap, ◌∙◌}
use mathlib.Core.List.{List}
use lib.ListN.{length, take, drop}
use lib.Seq.{take_at, drop_at}
use Rattle.wire.proofs.StopLaws.{⨾-left, ⨾-right, stop_if_no}
use Rattle.offload_binary.specs.Contents.{Contents, written}
use Rattle.offload_binary.specs.Theorems.{Writable}
use Rattle.offload_binary.specs.declared.StringPair.{StringPair}
use Rattle.offload_binary.proofs.SequenceTheorems as sequences
use Rattle.offload_binary.specs.Writer.{given, write_stop, Output, output_by, write}
use Rattle.offload_binary.specs.WriterTheorems.{WritesAndReads, Theorems}
use Rattle.offload_binary.specs.declared.Tags.{Tags}
use Rattle.offload_binary.proofs.CallLaws.{back}
use Rattle.offload_binary.proofs.WritableLaws.{strings_writable}

number_by : (k : ℕ) (bytes out : List ℕ) → (output_by k bytes out).answer.number ≡ k
number_by zero bytes out = refl
number_by (suc k) bytes out = refl

module _ (tags : Tags) (image : List ℕ) (pairs : List StringPair) (buf out : List ℕ) (flags : tags.flags < 256 ^ 4) (ok : (write tags image pairs buf out).answer.number ≡ 0) where
  abbrev g : Contents
  g = given tags image pairs buf

  nothing_stops : (write_stop tags image pairs buf (length out)).number ≡ 0
  unfolding write
  nothing_stops = sym (number_by (write_stop tags image pairs buf (length out)).number (written g) out) ∙ ok

  writable : Writable g
  unfolding write_stop given
  writable =
      let e₂ = ⨾-right _ _ nothing_stops in
      record {
        kinds = stop_if_no 14 _ (⨾-left _ _ nothing_stops);
        flags = flags;
        strings = strings_writable buf pairs (stop_if_no 15 _ (⨾-left _ _ e₂));
        fits = stop_if_no 10 _ (⨾-left _ _ (⨾-right _ _ e₂));
      }

  wrote_is : write tags image pairs buf out ≡ output_by 0 (written g) out
  wrote_is = back tags image pairs buf out 0 nothing_stops

  writes_and_reads : WritesAndReads tags image pairs buf out
  writes_and_reads = record {
    bytes = ap (λ (w : Output). take w.answer.len w.out) wrote_is ∙ take_at (written g) (drop (length (written g)) out) (length (written g)) refl;
    beyond = ap (λ (w : Output). drop w.answer.len w.out) wrote_is ∙ drop_at (written g) (drop (length (written g)) out) (length (written g)) refl
        ∙ ap (λ (w : Output). drop w.answer.len out) (sym wrote_is);
    lays = writable;
    reads = λ front rest taken few within. (sequences.theorems).reads_back g front rest taken writable few within;
  }

pub theorems : Theorems
theorems = record { writes_and_reads = writes_and_reads }
