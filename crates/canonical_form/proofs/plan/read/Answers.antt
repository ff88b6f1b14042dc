use Rattle.std.proofs.Common.{◌≡◌, ◌++◌, take, drop, take_at, length-take-le, sym, ap, ◌∙◌, arith}
use Rattle.wire.specs.Lists.{every}
use Rattle.canonical_form.specs.Spans.{chunks, head_text}
use Rattle.canonical_form.proofs.PlanLaws.{long-refused, pieces_refused, length-refused, order_refused, proc_refused, plan_yes, text_is, text_tidy, sorted_good}
use Rattle.canonical_form.proofs.plan.read.Goals as goal

pub returns-then-id-gt256 : goal.returns-then-id-gt256
returns-then-id-gt256 c = long-refused c.args.id.now (omega arith)

pub returns-in_err-count : goal.returns-in_err-count
returns-in_err-count c = rw c.from_residual-in_err-count.ensures (pieces_refused _ _ c.in_ok-head.ensures c.in_err-count.ensures)

pub returns-then-count-head : goal.returns-then-count-head
returns-then-count-head c = proc_refused _ _ c.in_ok-head.ensures _ _ c.in_ok-count.ensures c.if-count-head.true

pub returns-then-head-id : goal.returns-then-head-id
returns-then-head-id c = let h = c.in_ok-head.ensures in length-refused _ _ h _ _ c.in_ok-count.ensures (omega (arith, h.few, c.if-head-id.true))

pub sort-requires : goal.sort-requires
sort-requires c = c.in_ok-count.ensures.all_good

pub returns-in_err-tidy : goal.returns-in_err-tidy
returns-in_err-tidy c = rw c.from_residual-in_err-tidy.ensures (order_refused _ _ c.in_ok-head.ensures _ _ c.in_ok-count.ensures (sym c.in_err-tidy.ensures.apart))

pub returns-then-tidy : goal.returns-then-tidy
unfolding every
returns-then-tidy c =
    let h = c.in_ok-head.ensures in
    let o = c.in_ok-tidy.ensures in
    plan_yes _ _ h _ _ c.in_ok-count.ensures (omega (arith, h.few, c.if-head-id.false)) c.if-count-head.false (sym o.apart) _ 0 _ h.within (omega arith) (omega arith) tt
    (text_tidy _ _ h _ _ c.in_ok-count.ensures c.sort.new.spans o.made.0 (o.made.1 c.if-tidy.true))

pub returns : goal.returns
returns c =
    let x = c.args.id.now in
    let hd = c.in_ok-head.head in
    let h = c.in_ok-head.ensures in
    let p = c.in_ok-count.ensures in
    let o = c.in_ok-tidy.ensures in
    let u = c.sort.new.spans in
    let e : take c.in_ok-count.count (u ++ drop c.in_ok-count.count c.read_pieces.new.spans) ≡ u = take_at u _ c.in_ok-count.count (c.sort.auto.spans ∙ length-take-le _ _ (omega (arith, p.few, p.size))) in
    plan_yes x hd h _ _ p (omega (arith, h.few, c.if-head-id.false)) c.if-count-head.false (sym o.apart) _ _ _ (omega arith) h.within p.few (rw (e, o.made.0) (sorted_good x hd h _ _ p))
    (text_is x hd h _ _ p ∙ ap (λ l. head_text x hd.at hd.dashes hd.stop ++ chunks x l) (sym (e ∙ o.made.0)))
