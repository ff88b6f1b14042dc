use borrow.Author.Rules.{rules}
use native.Mathlib.Omega.{arith}
use Prim.Native.Nat.{◌+◌, ◌≤◌}
use mathlib.Core.Path.{sym, ap₂, ◌∙◌}
use mathlib.Core.Bool.{◌&&◌}
use lib.ListN.{length, drop, length-drop}
use Rattle.wire.specs.Bytes.{common}
use Rattle.wire.proofs.ByteLaws.{common-within}
use Rattle.entry_id.specs.Scan.{part}
use Rattle.entry_id.proofs.RunLaws.{part_rest}
use Rattle.entry_compare.proofs.TestLaws.{alike_lengths, alike_start, start_apart, alike_other, alike_next, next-apart, alike_end}
use Rattle.entry_compare.proofs.Pair.alike.Goals as goal

pub returns-then-a-b : goal.returns-then-a-b
returns-then-a-b c = sym (alike_lengths _ _ c.if-a-b.true)

pub loop-at-init : goal.loop-at-init
loop-at-init c = let a = c.args.self.now.a.now in
    let b = c.args.self.now.b.now in
    (omega (arith, c.args.self.now.shared_is, (common-within a b).0), c.if-a-b.false, alike_start a b _ c.args.self.now.shared_is, start_apart a b _ c.args.self.now.shared_is c.if-a-b.false)

pub bounds-b-at : goal.bounds-b-at
bounds-b-at c = omega (arith, c.loop-at.invariant.1)

pub returns-then-not-sign_byte : goal.returns-then-not-sign_byte
returns-then-not-sign_byte c = let l = c.loop-at in
    let a = c.args.self.now.a.now in
    let b = c.args.self.now.b.now in
    alike_other a b l.at l.invariant.1 l.invariant.2 (omega arith) (l.invariant.3 (omega arith)) (ap₂ ◌&&◌ (sym c.sign_byte.ensures) (sym c.sign_byte-in-loop-at.ensures) ∙ c.if-not-sign_byte.true)

pub slice_bounds-common_prefix-count-in-loop-at : goal.slice_bounds-common_prefix-count-in-loop-at
slice_bounds-common_prefix-count-in-loop-at c = omega (arith, c.loop-at.invariant.1)

pub slice_bounds-common_prefix-start-in-loop-at : goal.slice_bounds-common_prefix-start-in-loop-at
slice_bounds-common_prefix-start-in-loop-at c = omega (arith, c.loop-at.invariant.1)

pub overflow_add-at : goal.overflow_add-at
unfolding part
overflow_add-at c = let l = c.loop-at in
    let a = c.args.self.now.a.now in
    let b = c.args.self.now.b.now in
    let n = c.common_prefix in
    let e = n.ensures ∙ ap₂ common (part_rest a (l.at + 1)) (part_rest b (l.at + 1)) in
    let k : l.at + 1 + n.result ≤ length a = omega (arith, e, (common-within (drop (l.at + 1) a) (drop (l.at + 1) b)).0, length-drop (l.at + 1) a) in
    search rules

pub loop-at-smaller : goal.loop-at-smaller
unfolding part
loop-at-smaller c = let l = c.loop-at in
    let a = c.args.self.now.a.now in
    let b = c.args.self.now.b.now in
    let n = c.common_prefix in
    let e = n.ensures ∙ ap₂ common (part_rest a (l.at + 1)) (part_rest b (l.at + 1)) in
    omega arith

pub loop-at-preserved : goal.loop-at-preserved
unfolding part
loop-at-preserved c = let l = c.loop-at in
    let a = c.args.self.now.a.now in
    let b = c.args.self.now.b.now in
    let n = c.common_prefix in
    let e = n.ensures ∙ ap₂ common (part_rest a (l.at + 1)) (part_rest b (l.at + 1)) in
    let s = ap₂ ◌&&◌ (sym c.sign_byte.ensures) (sym c.sign_byte-in-loop-at.ensures) ∙ c.if-not-sign_byte.false in
    (omega (arith, e, (common-within (drop (l.at + 1) a) (drop (l.at + 1) b)).0, length-drop (l.at + 1) a), l.invariant.1, alike_next a b l.at l.invariant.1 l.invariant.2 (omega arith) s n.result e, next-apart a b l.at l.invariant.1 l.invariant.2 (omega arith) s n.result e)

pub returns : goal.returns
returns c = let l = c.loop-at in
    let a = c.args.self.now.a.now in
    let b = c.args.self.now.b.now in
    alike_end a b l.at (omega arith) (omega (arith, l.invariant.1)) l.invariant.2
