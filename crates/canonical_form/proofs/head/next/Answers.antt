use Rattle.std.proofs.Common.{◌≡◌, suc, ◌+◌, sym, ◌∙◌, add-one, arith}
use Rattle.entry_id.specs.Meaning.{field_byte}
use Rattle.entry_id.specs.Scan.{Run}
use Rattle.entry_id.proofs.RunLaws.{byte_inside}
use Rattle.canonical_form.proofs.HeadLaws.{next_no_dash, next-empty}
use Rattle.canonical_form.proofs.head.next.Goals as goal

pub returns-then-byte-ne45 : goal.returns-then-byte-ne45
returns-then-byte-ne45 c =
    let a = c.args in
    λ s k r. next_no_dash a.id.now s a.a k r (λ e. c.if-byte-ne45.true (c.byte.ensures ∙ e))

pub overflow_add-a : goal.overflow_add-a
overflow_add-a c =
    let a = c.args in
    let h = byte_inside a.id.now a.a 44 (sym c.byte.ensures ∙ c.if-byte-ne45.false) in
    omega arith

pub field_end-r-requires : goal.field_end-r-requires
field_end-r-requires c =
    let a = c.args in
    let h = byte_inside a.id.now a.a 44 (sym c.byte.ensures ∙ c.if-byte-ne45.false) in
    omega arith

pub returns-then-r-a : goal.returns-then-r-a
returns-then-r-a c =
    let a = c.args in
    let r : Run field_byte a.id.now (a.a + 1) c.field_end-r.result = c.field_end-r.ensures in
    let q : c.field_end-r.result ≡ suc a.a = omega arith in
    let r' : Run field_byte a.id.now (suc a.a) (suc a.a) = rw (add-one a.a, q) at r in
    λ s k h. next-empty a.id.now s a.a k h r'

pub returns : goal.returns
returns c =
    let a = c.args in
    let r : Run field_byte a.id.now (a.a + 1) c.field_end-r.result = c.field_end-r.ensures in
    record { dash = sym c.byte.ensures ∙ c.if-byte-ne45.false; run = rw (add-one a.a) at r; some = omega arith }
