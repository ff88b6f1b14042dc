use native.Mathlib.Omega.{arith}
use Prim.Native.Nat.{◌-◌}
use mathlib.Core.Path.{◌≡◌, sym, ap, ◌∙◌}
use borrow.Author.Count.{below_more}
use borrow.Author.Tests.{eq-eqb, ne_eqb}
use Rattle.wire.proofs.FirstLaws.{first_is, first-none}
use Rattle.entry_id.specs.Canonical.{head_key}
use Rattle.bundle_reader.specs.Examined.{id_at}
use Rattle.bundle_reader.specs.Slots.{near}
use Rattle.bundle_reader.proofs.IdLaws.{item_is, near_same}
use Rattle.bundle_reader.proofs.relations.near_next.Goals as goal

pub returns-then-key : goal.returns-then-key
returns-then-key c =
    let ids = c.args.ids.now in
    let i = c.args.i in
    let here : c.key-key.result ≡ head_key (id_at ids i) = c.key-key.ensures ∙ ap head_key (item_is ids i _ c.requires.0 c.index-ids-i.is) in
    let before : c.key.result ≡ head_key (id_at ids (i - 1)) = c.key.ensures ∙ ap head_key (item_is ids (i - 1) _ (omega arith) c.index-ids-i-then-i-gt0.is) in
    c.requires.1 (omega arith) ∙ near_same ids i (omega arith) (sym before ∙ c.if-key.true ∙ here)

pub returns-then-key-2 : goal.returns-then-key-2
unfolding near
returns-then-key-2 c =
    let ids = c.args.ids.now in
    let l = c.loop-j in
    let here : c.key-key.result ≡ head_key (id_at ids c.args.i) = c.key-key.ensures ∙ ap head_key (item_is ids c.args.i _ c.requires.0 c.index-ids-i.is) in
    let there : c.key-in-loop-j.result ≡ head_key (id_at ids l.j) = c.key-in-loop-j.ensures ∙ ap head_key (item_is ids l.j _ (omega arith) c.index-ids-j.is) in
    sym (first_is _ _ l.j (omega arith) (eq-eqb _ _ (sym there ∙ c.if-key-2.true ∙ here)) l.invariant)

pub loop-j-preserved : goal.loop-j-preserved
loop-j-preserved c =
    let ids = c.args.ids.now in
    let l = c.loop-j in
    let here : c.key-key.result ≡ head_key (id_at ids c.args.i) = c.key-key.ensures ∙ ap head_key (item_is ids c.args.i _ c.requires.0 c.index-ids-i.is) in
    let there : c.key-in-loop-j.result ≡ head_key (id_at ids l.j) = c.key-in-loop-j.ensures ∙ ap head_key (item_is ids l.j _ (omega arith) c.index-ids-j.is) in
    below_more _ l.j l.invariant (ne_eqb _ _ (λ e. c.if-key-2.false (there ∙ e ∙ sym here)))

pub returns : goal.returns
unfolding near
returns c = sym (first-none _ _ (λ k h. c.loop-j.invariant k (omega arith)))
