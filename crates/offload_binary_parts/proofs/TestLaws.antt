-- Keys among pairs, as code looks for them. Assumes nothing.
use Prim.Native.Nat.{ℕ, ◌<◌}
use native.Mathlib.Omega.{arith}
use mathlib.Core.Path.{◌≡◌, sym, ap, ap₂, ◌∙◌}
use mathlib.Core.Bool.{Bool}
use mathlib.Core.List.{List}
use lib.ListN.{length, get_or, take}
use lib.Seq.{get_or-take, length-take-le}
use Rattle.std.specs.List.{list_any}
use Rattle.wire.specs.Bytes.{same}
use Rattle.wire.specs.First.{any_below}
use Rattle.wire.specs.Stop.{earlier}
use Rattle.wire.proofs.FirstLaws.{any_same}
use Rattle.offload_binary.specs.Binary.{bytes_at, no_pair, key_in}
use Rattle.offload_binary.specs.declared.StringPair.{StringPair}
use Rattle.offload_binary.proofs.ListLaws.{any_list}

pub key_earlier : (s : List ℕ) (pairs : List StringPair) (i : ℕ) → i < length pairs → (key : List ℕ) → key ≡ bytes_at s (get_or pairs i no_pair).key
    → list_any (λ pair. same (bytes_at s pair.key) key) (take i pairs) ≡ earlier same (key_in s pairs) i
unfolding earlier key_in
key_earlier s pairs i h key e =
    let p : StringPair → Bool = λ pair. same (bytes_at s pair.key) key in
    sym (any_list p no_pair (take i pairs))
    ∙ ap (λ n. any_below n (λ j. p (get_or (take i pairs) j no_pair))) (length-take-le i pairs (omega arith))
    ∙ any_same i _ _ (λ j k. ap₂ (λ x y. same (bytes_at s x.key) y) (get_or-take i pairs j no_pair k) e)
