-- The theorems on byte strings and words. Assumes nothing.
use mathlib.Core.Path.{subst}
use lib.Dec.{T}
use Rattle.wire.specs.Bytes.{same}
use Rattle.wire.specs.Theorems.{ByteOrder, Words}
use Rattle.wire.proofs.WordLaws.{word_at, length_bytes_of}
use Rattle.wire.proofs.ByteLaws.{same_refl, same_eq, before_irrefl, before_trans, before-total}
use Rattle.wire.proofs.OverwriteLaws.{length-overwrite}

pub byte_order : ByteOrder
byte_order = record {
  irreflexive = before_irrefl;
  transitive = before_trans;
  total = before-total;
  equal = λ a b. (same_eq a b, λ e. subst (λ z. T (same a z)) e (same_refl a));
}

pub words : Words
words = record { read_back = word_at; width = length_bytes_of; same_size = length-overwrite }
