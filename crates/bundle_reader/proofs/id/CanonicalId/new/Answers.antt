use native.Mathlib.Omega.{arith}
use Prim.Native.Nat.{◌+◌, ◌%◌, ◌^◌}
use mathlib.Core.Path.{sym, ap}
use mathlib.Core.List.{[]}
use Rattle.wire.proofs.WordLaws.{word-beyond}
use Rattle.wire.specs.Bytes.{same}
use Rattle.entry_id.specs.Canonical.{head_key, key_of, head_number, head_of, after_kind, kind_part}
use Rattle.entry_id.specs.Meaning.{fields_of}
use Rattle.entry_id.specs.Compare.{compared_kind}
use Rattle.entry_id.specs.Text.{split_on}
use Rattle.bundle_reader.proofs.id.CanonicalId.new.Goals as goal

pub invariant_of-result : goal.invariant_of-result
unfolding head_key key_of head_number head_of after_kind kind_part fields_of split_on compared_kind same
invariant_of-result c = (omega arith, ap (λ n. ((n + n) % 2 ^ 64 + 0) % 2 ^ 64) (sym (word-beyond 8 [] 0 (omega arith))))
