use Rattle.std.proofs.Common.{◌≡◌, refl, ap, ap₂, ◌∙◌, arith, set}
use borrow.Author.Count.{below_more}
use Rattle.wire.specs.Lists.{tab}
use Rattle.wire.proofs.FirstLaws.{any_some, any_none}
use Rattle.offload_binary.specs.Lists.{slots}
use Rattle.offload_binary.specs.Binary.{pair, bad_pair, no_pair}
use Rattle.offload_binary.proofs.ListLaws.{slots_next}
use Rattle.offload_binary_reader.proofs.ReadLaws.{none_is, some_is, was_none, was_some}
use Rattle.offload_binary_reader.proofs.read_pairs.Goals as goal

pub loop-i-init : goal.loop-i-init
unfolding slots tab
loop-i-init c = record { read = refl; good = λ k h. absurd (omega arith) }

pub returns-in_err-pairs : goal.returns-in_err-pairs
returns-in_err-pairs c =
    let a = c.args in
    c.from_residual.ensures ∙ none_is _ _ (any_some a.n (bad_pair a.o.now a.table) c.loop-i.i (omega arith) (was_none _ _ _ c.read_pair.ensures c.in_err-pairs.was))

pub loop-i-preserved : goal.loop-i-preserved
loop-i-preserved c =
    let a = c.args in
    let l = c.loop-i in
    let p = was_some _ _ _ c.in_ok-pairs.field-0 c.read_pair.ensures c.in_ok-pairs.was in
    record { read = ap₂ (λ x y. set x l.i y) l.invariant.read p.is ∙ slots_next 32 no_pair (pair a.from a.o.now a.table) l.i (omega arith); good = below_more _ _ l.invariant.good p.good }

pub returns : goal.returns
returns c =
    let a = c.args in
    let l = c.loop-i in
    let e : l.i ≡ a.n = omega arith in
    some_is _ _ (any_none a.n (bad_pair a.o.now a.table) (λ k h. l.invariant.good k (omega arith))) l.pairs (l.invariant.read ∙ ap (λ k. slots 32 no_pair (tab k (pair a.from a.o.now a.table))) e)
