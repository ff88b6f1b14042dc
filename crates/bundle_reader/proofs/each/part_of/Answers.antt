use native.Mathlib.Omega.{arith}
use Rattle.bundle_reader.proofs.EachLaws.{part-outside, rest_length, part_length, part_inside}
use Rattle.bundle_reader.proofs.each.part_of.Goals as goal

pub returns-then-buffer-start : goal.returns-then-buffer-start
returns-then-buffer-start c = let a = c.args in part-outside a.buffer.now a.part (omega (arith, c.if-buffer-start.true))

pub returns-then-rest-len : goal.returns-then-rest-len
returns-then-rest-len c = let a = c.args in part-outside a.buffer.now a.part (omega (arith, c.if-buffer-start.false, c.if-rest-len.true, rest_length a.buffer.now a.part))

pub slice_bounds-result-end-2 : goal.slice_bounds-result-end-2
slice_bounds-result-end-2 c = let a = c.args in part_length a.buffer.now a.part c.if-rest-len.false

pub returns : goal.returns
returns c = let a = c.args in part_inside a.buffer.now a.part c.if-buffer-start.false c.if-rest-len.false
