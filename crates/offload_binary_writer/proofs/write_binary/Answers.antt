use native.Mathlib.Omega.{arith}
use Rattle.std.proofs.Common.{sym, ap, ◌∙◌, Err}
use Rattle.offload_binary.specs.Results.{written_of}
use Rattle.offload_binary_writer.proofs.WholeLaws.{size_is, pairs_short}
use Rattle.offload_binary.proofs.CallLaws.{few_pairs, call_kinds, call_pairs, call_big, image_big, call_room, call_good}
use Rattle.offload_binary_writer.proofs.write_binary.Goals as goal

pub returns-then-bad_kinds : goal.returns-then-bad_kinds
returns-then-bad_kinds c =
    let a = c.args in
    call_kinds a.tags a.image.now a.pairs.now a.buf.now a.out.now (sym c.bad_kinds.ensures ∙ c.if-bad_kinds.true) _ (ap (λ r. written_of (Err r)) c.at.ensures)

pub returns-then-bad_pairs : goal.returns-then-bad_pairs
returns-then-bad_pairs c =
    let a = c.args in
    call_pairs a.tags a.image.now a.pairs.now a.buf.now a.out.now (sym c.bad_kinds.ensures ∙ c.if-bad_kinds.false) (sym c.bad_pairs.ensures ∙ c.if-bad_pairs.true) _ (ap (λ r. written_of (Err r)) c.at-then-bad_pairs.ensures)

pub returns-then-image-gt-LIMIT : goal.returns-then-image-gt-LIMIT
returns-then-image-gt-LIMIT c =
    let a = c.args in
    let k = sym c.bad_kinds.ensures ∙ c.if-bad_kinds.false in
    let p = sym c.bad_pairs.ensures ∙ c.if-bad_pairs.false in
    call_big a.tags a.image.now a.pairs.now a.buf.now a.out.now k p (image_big a.tags a.image.now a.pairs.now a.buf.now a.out.now k p c.if-image-gt-LIMIT.true) _ (ap (λ r. written_of (Err r)) c.at-then-image-gt-LIMIT.ensures)

pub places-at-requires : goal.places-at-requires
places-at-requires c =
    let a = c.args in
    let p = sym c.bad_pairs.ensures ∙ c.if-bad_pairs.false in
    (few_pairs a.buf.now a.pairs.now p, pairs_short a.buf.now a.pairs.now p, omega arith)

pub returns-then-at-gt-LIMIT : goal.returns-then-at-gt-LIMIT
returns-then-at-gt-LIMIT c =
    let a = c.args in
    let p = sym c.bad_pairs.ensures ∙ c.if-bad_pairs.false in
    let z = size_is a.tags a.image.now a.pairs.now a.buf.now p c.places-at.result c.places-at.ensures in
    call_big a.tags a.image.now a.pairs.now a.buf.now a.out.now (sym c.bad_kinds.ensures ∙ c.if-bad_kinds.false) p (omega arith) _ (ap (λ r. written_of (Err r)) c.at-then-at-gt-LIMIT.ensures)

pub returns-then-out-at : goal.returns-then-out-at
returns-then-out-at c =
    let a = c.args in
    let p = sym c.bad_pairs.ensures ∙ c.if-bad_pairs.false in
    let z = size_is a.tags a.image.now a.pairs.now a.buf.now p c.places-at.result c.places-at.ensures in
    call_room a.tags a.image.now a.pairs.now a.buf.now a.out.now (sym c.bad_kinds.ensures ∙ c.if-bad_kinds.false) p (omega arith) (omega arith) _ (ap (λ r. written_of (Err r)) c.at-then-out-at.ensures)

pub write_parts-requires : goal.write_parts-requires
write_parts-requires c = (sym c.bad_pairs.ensures ∙ c.if-bad_pairs.false, c.places-at.ensures, omega arith)

pub returns : goal.returns
returns c =
    let a = c.args in
    let p = sym c.bad_pairs.ensures ∙ c.if-bad_pairs.false in
    let z = size_is a.tags a.image.now a.pairs.now a.buf.now p c.places-at.result c.places-at.ensures in
    call_good a.tags a.image.now a.pairs.now a.buf.now a.out.now (sym c.bad_kinds.ensures ∙ c.if-bad_kinds.false) p (omega arith) (omega arith) c.places-at.result.size (sym z) c.write_parts.new.out c.write_parts.ensures
