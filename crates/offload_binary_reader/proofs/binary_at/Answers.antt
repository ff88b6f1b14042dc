use Rattle.std.proofs.Common.{sym, ◌∙◌}
use Rattle.offload_binary_reader.proofs.BodyLaws.{at_head, at_span, length_own, inside, at_body}
use Rattle.offload_binary_reader.proofs.binary_at.Goals as goal

pub returns-then-bad_head : goal.returns-then-bad_head
returns-then-bad_head c =
    let a = c.args in at_head a.s.now a.position c.bytes_at-left.result.now c.bytes_at-left.ensures (sym c.bad_head.ensures ∙ c.if-bad_head.true) c.at.result c.at.ensures

pub returns-then-bad_span : goal.returns-then-bad_span
returns-then-bad_span c =
    let a = c.args in
    at_span a.s.now a.position c.bytes_at-left.result.now c.bytes_at-left.ensures (sym c.bad_head.ensures ∙ c.if-bad_head.false) (sym c.bad_span.ensures ∙ c.if-bad_span.true) c.at-then-bad_span.result c.at-then-bad_span.ensures

pub slice_bounds-read_body-end : goal.slice_bounds-read_body-end
slice_bounds-read_body-end c =
    let a = c.args in sym (length_own a.s.now a.position c.bytes_at-left.result.now c.bytes_at-left.ensures (sym c.bad_head.ensures ∙ c.if-bad_head.false) (sym c.bad_span.ensures ∙ c.if-bad_span.false) c.word_at-size.result c.word_at-entry.result c.word_at-size.ensures.0 c.word_at-entry.ensures.0)

pub read_body-requires : goal.read_body-requires
read_body-requires c =
    let a = c.args in inside a.s.now a.position c.bytes_at-left.result.now c.bytes_at-left.ensures (sym c.bad_head.ensures ∙ c.if-bad_head.false) (sym c.bad_span.ensures ∙ c.if-bad_span.false) c.word_at-size.result c.word_at-entry.result c.word_at-size.ensures.0 c.word_at-entry.ensures.0

pub returns : goal.returns
returns c =
    let a = c.args in c.read_body.ensures ∙ at_body a.s.now a.position c.bytes_at-left.result.now c.bytes_at-left.ensures (sym c.bad_head.ensures ∙ c.if-bad_head.false) (sym c.bad_span.ensures ∙ c.if-bad_span.false) c.word_at-size.result c.word_at-entry.result c.word_at-size.ensures.0 c.word_at-entry.ensures.0
