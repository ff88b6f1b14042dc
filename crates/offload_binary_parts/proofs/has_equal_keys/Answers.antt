use Rattle.std.proofs.Common.{sym, ◌∙◌, arith}
use borrow.Author.Count.{below_more}
use Rattle.wire.specs.Bytes.{same}
use Rattle.wire.specs.Stop.{earlier}
use Rattle.wire.proofs.FirstLaws.{any_some, any_none}
use Rattle.offload_binary.specs.Binary.{key_in, equal_keys}
use Rattle.offload_binary_parts.proofs.TestLaws.{key_earlier}
use Rattle.offload_binary_parts.proofs.has_equal_keys.Goals as goal

pub returns-then-has_key : goal.returns-then-has_key
unfolding equal_keys
returns-then-has_key c =
    let a = c.args in
    let i = c.loop-i.i in
    sym (any_some _ (earlier same (key_in a.s.now a.pairs.now)) i (omega arith)
    (sym (key_earlier a.s.now a.pairs.now i (omega arith) c.bytes_at.result.now c.bytes_at.ensures) ∙ sym c.has_key.ensures ∙ c.if-has_key.true))

pub loop-i-preserved : goal.loop-i-preserved
loop-i-preserved c =
    let a = c.args in
    let i = c.loop-i.i in
    below_more _ _ c.loop-i.invariant (sym (key_earlier a.s.now a.pairs.now i (omega arith) c.bytes_at.result.now c.bytes_at.ensures) ∙ sym c.has_key.ensures ∙ c.if-has_key.false)

pub returns : goal.returns
unfolding equal_keys
returns c =
    let a = c.args in
    sym (any_none _ (earlier same (key_in a.s.now a.pairs.now)) (λ k h. c.loop-i.invariant k (omega arith)))
