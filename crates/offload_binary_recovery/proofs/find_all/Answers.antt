use native.Mathlib.Omega.{arith}
use mathlib.Core.Path.{◌≡◌, ◌∙◌}
use Rattle.offload_binary.proofs.RecoveryLaws.{lowest_from}
use Rattle.offload_binary_recovery.proofs.SearchLaws.{size_at, lowest-found, lowest-missed, found-fits, begin, finished, full, next_turn}
use Rattle.offload_binary_recovery.proofs.find_all.Goals as goal

pub loop-n-init : goal.loop-n-init
loop-n-init c = begin c.args.s.now

pub lowest-requires : goal.lowest-requires
lowest-requires c = c.loop-n.invariant.inside

pub returns-in_default : goal.returns-in_default
returns-in_default c =
    let l = c.loop-n in
    finished _ _ _ _ _ l.invariant (lowest-missed c.args.s.now l.cursor l.invariant.inside c.in_default.ensures)

pub overflow_add-cursor : goal.overflow_add-cursor
overflow_add-cursor c =
    let l = c.loop-n in
    let s = c.args.s.now in
    omega (arith, found-fits s l.cursor _ _ (lowest-found s l.cursor _ c.in-Some.ensures) c.in-Some.ensures.1 c.word_at-size.ensures.0)

pub overflow_add-total : goal.overflow_add-total
overflow_add-total c =
    let l = c.loop-n in
    let s = c.args.s.now in
    let found = lowest-found s l.cursor _ c.in-Some.ensures in
    omega (arith, found-fits s l.cursor _ _ found c.in-Some.ensures.1 c.word_at-size.ensures.0, l.invariant.total_le, lowest_from s l.cursor, found)

pub loop-n-preserved : goal.loop-n-preserved
loop-n-preserved c =
    let l = c.loop-n in
    let s = c.args.s.now in
    next_turn s l.n l.cursor l.total l.list l.invariant (omega arith) _ (lowest-found s l.cursor _ c.in-Some.ensures) c.in-Some.ensures.1 _ (c.word_at-size.ensures.0 ∙ size_at s c.in-Some.p)

pub returns : goal.returns
returns c =
    let l = c.loop-n in
    let n : 65 ≡ l.n = omega arith in
    rw n (full _ _ _ _ _ l.invariant (omega arith))
