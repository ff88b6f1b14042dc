use Rattle.std.proofs.Common.{add-one, arith}
use Rattle.entry_id.specs.Scan.{part}
use Rattle.canonical_form.specs.Spans.{name_of}
use Rattle.canonical_form.proofs.SpanLaws.{good-parts}
use Rattle.canonical_form.proofs.features.Span.name.Goals as goal

pub overflow_add-result : goal.overflow_add-result
overflow_add-result c = let p = (good-parts _ _ c.requires).piece in omega (arith, p.some, p.inside)

pub slice_bounds-result-count : goal.slice_bounds-result-count
slice_bounds-result-count c = let p = (good-parts _ _ c.requires).piece in omega (arith, p.some, p.inside)

pub slice_bounds-result-start : goal.slice_bounds-result-start
slice_bounds-result-start c = let p = (good-parts _ _ c.requires).piece in omega (arith, p.some, p.inside)

pub slice_bounds-result-end : goal.slice_bounds-result-end
slice_bounds-result-end c = let p = (good-parts _ _ c.requires).piece in omega (arith, p.some, p.inside)

pub returns : goal.returns
unfolding name_of part
returns c = rw add-one
