use native.Mathlib.Omega.{arith}
use Rattle.std.proofs.lemmas.Result.{err_from_is_err_and}
use Rattle.offload_binaries.proofs.NextLaws.{call_length, call_end, call_many, call_refused, call_inside, call_good}
use Rattle.offload_binaries.proofs.next_at.Goals as goal

pub returns-then-s-gt-LIMIT : goal.returns-then-s-gt-LIMIT
returns-then-s-gt-LIMIT c =
    let a = c.args in
    call_length a.s.now a.cursor c.if-s-gt-LIMIT.true c.at.result c.at.ensures

pub returns-then-position-s : goal.returns-then-position-s
returns-then-position-s c =
    let a = c.args in
    call_end a.s.now a.cursor c.if-s-gt-LIMIT.false c.if-position-s.true c.at-then-position-s.result c.at-then-position-s.ensures

pub returns-then-taken-ge-BINARIES : goal.returns-then-taken-ge-BINARIES
returns-then-taken-ge-BINARIES c =
    let a = c.args in
    call_many a.s.now a.cursor c.if-s-gt-LIMIT.false c.if-position-s.false c.if-taken-ge-BINARIES.true c.at-then-taken-ge-BINARIES.result c.at-then-taken-ge-BINARIES.ensures

pub returns-in_err-binary : goal.returns-in_err-binary
returns-in_err-binary c =
    let a = c.args in
    let p = err_from_is_err_and c.from_residual.result c.from_residual.ensures.1 in
    rw (p.1, p.2) (call_refused a.s.now a.cursor c.if-s-gt-LIMIT.false c.if-position-s.false c.if-taken-ge-BINARIES.false c.in_err-binary.field-0.0 c.in_err-binary.ensures)

pub overflow_add-behind : goal.overflow_add-behind
overflow_add-behind c =
    let a = c.args in
    let h = call_inside a.s.now a.cursor c.if-s-gt-LIMIT.false c.if-position-s.false c.if-taken-ge-BINARIES.false c.in_ok-binary.binary c.in_ok-binary.ensures in
    omega arith

pub returns : goal.returns
returns c =
    let a = c.args in
    call_good a.s.now a.cursor c.if-s-gt-LIMIT.false c.if-position-s.false c.if-taken-ge-BINARIES.false c.in_ok-binary.binary c.in_ok-binary.ensures
