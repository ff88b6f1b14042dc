-- 16 of the writer's parts and pairs, as code tries it. Assumes nothing.
use Prim.Native.Nat.{ℕ}
use mathlib.Core.Path.{◌≡◌, sym}
use mathlib.Core.List.{List}
use lib.ListN.{length, get_or}
use lib.Dec.{eqb}
use Rattle.std.specs.List.{list_any}
use Rattle.wire.specs.First.{any_below}
use Rattle.offload_binary.specs.Binary.{run, ended, no_pair}
use Rattle.offload_binary.specs.Writer.{bad_pair}
use Rattle.offload_binary.specs.declared.StringPair.{StringPair}
use Rattle.offload_binary.proofs.ListLaws.{any_list}

pub zero_ends : (t : List ℕ) → list_any (λ b. eqb b 0) t ≡ ended t
unfolding ended run any_below
zero_ends t = sym (any_list (λ b. eqb b 0) 0 t)

pub any_bad : (buf : List ℕ) (pairs : List StringPair) → list_any (bad_pair buf) pairs ≡ any_below (length pairs) (λ i. bad_pair buf (get_or pairs i no_pair))
any_bad buf pairs = sym (any_list (bad_pair buf) no_pair pairs)
