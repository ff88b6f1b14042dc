use native.Mathlib.Omega.{arith}
use Rattle.std.proofs.Common.{sym, ◌∙◌}
use Rattle.offload_binary_reader.proofs.ReadLaws.{was_none, was_some}
use Rattle.offload_binary_reader.proofs.BodyLaws.{body_kinds, body_strings, body_image, body_good, image-fits}
use Rattle.offload_binary_reader.proofs.read_body.Goals as goal

pub returns-then-bad_kinds : goal.returns-then-bad_kinds
returns-then-bad_kinds c =
    let a = c.args in
    body_kinds a.from a.own.now a.at c.read_entry-entry.result c.read_entry-entry.ensures (sym c.bad_kinds.ensures ∙ c.if-bad_kinds.true) c.at.result c.at.ensures

pub returns-in_default : goal.returns-in_default
returns-in_default c =
    let a = c.args in
    body_strings a.from a.own.now a.at c.read_entry-entry.result c.read_entry-entry.ensures (sym c.bad_kinds.ensures ∙ c.if-bad_kinds.false) (was_none _ _ _ c.read_strings.ensures c.in_default.is) c.at-in_default.result c.at-in_default.ensures

pub returns-then-bad_image : goal.returns-then-bad_image
returns-then-bad_image c =
    let a = c.args in
    let r = was_some _ _ _ c.in-Some.pairs c.read_strings.ensures c.in-Some.is in
    body_image a.from a.own.now a.at c.read_entry-entry.result c.read_entry-entry.ensures (sym c.bad_kinds.ensures ∙ c.if-bad_kinds.false) r.good (sym c.bad_image.ensures ∙ c.if-bad_image.true) c.at-then-bad_image.result c.at-then-bad_image.ensures

pub overflow_add-result : goal.overflow_add-result
overflow_add-result c =
    let i = image-fits _ c.read_entry-entry.result.image (sym c.bad_image.ensures ∙ c.if-bad_image.false) in
    omega arith

pub returns : goal.returns
returns c =
    let a = c.args in
    let r = was_some _ _ _ c.in-Some.pairs c.read_strings.ensures c.in-Some.is in
    body_good a.from a.own.now a.at c.read_entry-entry.result c.read_entry-entry.ensures (sym c.bad_kinds.ensures ∙ c.if-bad_kinds.false) r.good (sym c.bad_image.ensures ∙ c.if-bad_image.false) c.in-Some.pairs r.is
