use Rattle.std.proofs.Common.{refl, ap, Err}
use Rattle.offload_binary.specs.Results.{recovered_of}
use Rattle.offload_binary_recovery.proofs.CallLaws.{call_long, call_many, call_copies, call_spans, call_done}
use Rattle.offload_binary_recovery.proofs.recover.Goals as goal

pub returns-then-s-gt-LIMIT : goal.returns-then-s-gt-LIMIT
returns-then-s-gt-LIMIT c = let a = c.args in let b = call_long a.s.now a.out.now a.spans.now c.if-s-gt-LIMIT.true _ (ap (λ r. recovered_of (Err r)) c.at.ensures) in record { value = b.answer; out_after = b.copies; spans_after = b.list }

pub returns-then-n-gt-BINARIES : goal.returns-then-n-gt-BINARIES
returns-then-n-gt-BINARIES c = let a = c.args in let b = call_many a.s.now a.out.now a.spans.now c.if-s-gt-LIMIT.false _ _ _ c.find_all-f.ensures c.if-n-gt-BINARIES.true _ (ap (λ r. recovered_of (Err r)) c.at-then-n-gt-BINARIES.ensures) in record { value = b.answer; out_after = b.copies; spans_after = b.list }

pub returns-then-out-total : goal.returns-then-out-total
returns-then-out-total c = let a = c.args in let b = call_copies a.s.now a.out.now a.spans.now c.if-s-gt-LIMIT.false _ _ _ c.find_all-f.ensures c.if-n-gt-BINARIES.false c.if-out-total.true _ (ap (λ r. recovered_of (Err r)) c.at-then-out-total.ensures) in record { value = b.answer; out_after = b.copies; spans_after = b.list }

pub returns-then-room-count : goal.returns-then-room-count
returns-then-room-count c = let a = c.args in let b = call_spans a.s.now a.out.now a.spans.now c.if-s-gt-LIMIT.false _ _ _ c.find_all-f.ensures c.if-n-gt-BINARIES.false _ _ _ c.put_spans-count.ensures c.if-room-count.true _ (ap (λ r. recovered_of (Err r)) c.at-then-room-count.ensures) in record { value = b.answer; out_after = b.copies; spans_after = b.list }

pub returns : goal.returns
returns c = let a = c.args in let b = call_done a.s.now a.out.now a.spans.now c.if-s-gt-LIMIT.false _ _ _ c.find_all-f.ensures c.if-n-gt-BINARIES.false _ _ _ c.put_spans-count.ensures c.if-room-count.false c.if-out-total.false _ refl _ c.put_copies.ensures _ _ c.put_spans.ensures in record { value = b.answer; out_after = b.copies; spans_after = b.list }
