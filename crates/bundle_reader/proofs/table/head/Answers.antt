use native.Mathlib.Omega.{arith}
use Prim.Native.Nat.{◌<◌, ◌≤◌}
use mathlib.Core.Path.{◌≡◌, refl, sym, ap, ◌∙◌}
use mathlib.Core.Bool.{true, false}
use borrow.Author.Tests.{lt-ltb, le-ltb}
use lib.ListN.{length, take, length-take}
use Rattle.wire.specs.Stop.{◌⨾◌, stop_if, stop_when}
use Rattle.wire.specs.Refusals.{stop_by}
use Rattle.wire.proofs.ByteLaws.{same_length}
use Rattle.bundle.specs.Table.{magic, count}
use Rattle.bundle.proofs.CheckLaws.{head_is}
use Rattle.bundle_reader.proofs.table.head.Goals as goal

pub returns-then-s-gt1073741824-clause-stop : goal.returns-then-s-gt1073741824-clause-stop
unfolding stop_if stop_when ◌⨾◌
returns-then-s-gt1073741824-clause-stop c = ap stop_by c.at.ensures ∙ head_is _ true _ _ (lt-ltb _ _ c.if-s-gt1073741824.true) refl refl

pub returns-then-s-lt24-clause-stop : goal.returns-then-s-lt24-clause-stop
unfolding stop_if stop_when ◌⨾◌ magic
returns-then-s-lt24-clause-stop c = let s = c.args.s.now in
    ap stop_by c.at-then-s-lt24.ensures
    ∙ head_is s false false _ (le-ltb _ _ c.if-s-gt1073741824.false) (same_length _ _ (λ (q : length (take 24 s) ≡ length magic). omega (arith, length-take 24 s))) refl

pub returns-then-not-same_bytes-clause-stop : goal.returns-then-not-same_bytes-clause-stop
unfolding stop_if stop_when ◌⨾◌ magic
returns-then-not-same_bytes-clause-stop c =
    ap stop_by c.at-then-not-same_bytes.ensures
    ∙ head_is _ false false _ (le-ltb _ _ c.if-s-gt1073741824.false) (sym c.same_bytes.ensures ∙ c.if-not-same_bytes.true) refl

pub returns-then-s-lt32-clause-stop : goal.returns-then-s-lt32-clause-stop
unfolding stop_if stop_when ◌⨾◌ magic
returns-then-s-lt32-clause-stop c =
    ap stop_by c.at-then-s-lt32.ensures
    ∙ head_is _ false true true (le-ltb _ _ c.if-s-gt1073741824.false) (sym c.same_bytes.ensures ∙ c.if-not-same_bytes.false) (rw (lt-ltb _ _ c.if-s-lt32.true))

pub returns-then-word_at-gt64-clause-stop : goal.returns-then-word_at-gt64-clause-stop
unfolding stop_if stop_when ◌⨾◌ count magic
returns-then-word_at-gt64-clause-stop c = let s = c.args.s.now in
    let n : 64 < count s = omega (arith, c.word_at.ensures.0) in
    ap stop_by c.at-then-word_at-gt64.ensures
    ∙ head_is s false true true (le-ltb _ _ c.if-s-gt1073741824.false) (sym c.same_bytes.ensures ∙ c.if-not-same_bytes.false) (rw (le-ltb _ _ c.if-s-lt32.false, lt-ltb _ _ n))

pub returns-clause-stop : goal.returns-clause-stop
unfolding stop_if stop_when ◌⨾◌ count magic
returns-clause-stop c = let s = c.args.s.now in
    let n : count s ≤ 64 = omega (arith, c.word_at.ensures.0) in
    head_is s false true false (le-ltb _ _ c.if-s-gt1073741824.false) (sym c.same_bytes.ensures ∙ c.if-not-same_bytes.false) (rw (le-ltb _ _ c.if-s-lt32.false, le-ltb _ _ n))

pub returns-clause-count : goal.returns-clause-count
unfolding count
returns-clause-count c = c.word_at-2.ensures.0
