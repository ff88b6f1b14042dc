use Rattle.std.proofs.Common.{refl, ◌∙◌}
use Rattle.offload_binary_reader.proofs.ReadLaws.{none_is, was_none, was_some, pair_key, pair_text, pair_empty, pair_some}
use Rattle.offload_binary_reader.proofs.read_pair.Goals as goal

pub returns-in_err-key : goal.returns-in_err-key
returns-in_err-key c =
    let a = c.args in
    c.from_residual.ensures ∙ none_is _ _ (pair_key a.from a.o.now a.table a.i c.word_at.result _ c.word_at.ensures.0 refl (was_none _ _ _ c.read_string.ensures c.in_err-key.was))

pub returns-in_err-text : goal.returns-in_err-text
returns-in_err-text c =
    let a = c.args in
    c.from_residual-in_err-text.ensures ∙ none_is _ _ (pair_text a.from a.o.now a.table a.i c.word_at.result c.word_at-2.result c.word_at.ensures.0 c.word_at-2.ensures.0 (was_none _ _ _ c.read_string-2.ensures c.in_err-text.was))

pub returns-then-key-eq0 : goal.returns-then-key-eq0
returns-then-key-eq0 c =
    let a = c.args in
    let k = was_some _ _ _ c.in_ok-key.key c.read_string.ensures c.in_ok-key.was in
    none_is _ _ (pair_empty a.from a.o.now a.table a.i c.word_at.result c.word_at-2.result c.word_at.ensures.0 c.word_at-2.ensures.0 c.in_ok-key.key k.is c.if-key-eq0.true)

pub returns : goal.returns
returns c =
    let a = c.args in
    let k = was_some _ _ _ c.in_ok-key.key c.read_string.ensures c.in_ok-key.was in
    let t = was_some _ _ _ c.in_ok-text.text c.read_string-2.ensures c.in_ok-text.was in
    pair_some a.from a.o.now a.table a.i c.word_at.result c.word_at-2.result c.word_at.ensures.0 c.word_at-2.ensures.0 k.good t.good c.in_ok-key.key c.in_ok-text.text k.is t.is c.if-key-eq0.false
