-- The theorems on one offload binary. Assumes nothing.
use mathlib.Core.Path.{ap}
use Rattle.offload_binary.specs.Theorems.{Theorems}
use Rattle.offload_binary.proofs.WrittenLaws.{good}
use Rattle.offload_binary.proofs.ReadBack.{read_go, size_back, read_back}

pub theorems : Theorems
theorems = record {
  reads_back = λ g w front rest.
      let ok = good g w in
      record { sound = ap (λ t. t.number) (read_go g rest ok); size = size_back g rest ok; holds = read_back g rest ok front };
}
