use native.Mathlib.Omega.{arith}
use Rattle.std.proofs.Common.{sym, ap, ◌∙◌, ◌+◌}
use lib.ListN.{length-drop}
use Rattle.offload_binary.specs.Binary.{string_at}
use Rattle.offload_binary_reader.proofs.ReadLaws.{none_is, some_is, fits_string, no_string, zero_none, zero_some}
use Rattle.offload_binary_reader.proofs.read_string.Goals as goal

pub returns-then-at-lt32 : goal.returns-then-at-lt32
returns-then-at-lt32 c = let a = c.args in none_is _ _ (no_string a.o.now a.at (λ f. omega (arith, f.low)))

pub returns-in_err-len : goal.returns-in_err-len
returns-in_err-len c =
    let a = c.args in
    c.from_residual.ensures ∙ none_is _ _ (no_string a.o.now a.at (zero_none a.o.now a.at c.bytes_at-near.result.now c.bytes_at-near.ensures c.zero_at.result c.zero_at.ensures c.in_err-len.was))

pub overflow_add-result : goal.overflow_add-result
overflow_add-result c =
    let a = c.args in
    let f = (zero_some a.o.now a.at c.bytes_at-near.result.now c.bytes_at-near.ensures c.zero_at.result c.zero_at.ensures c.in_ok-len.len c.in_ok-len.was c.if-at-lt32.false).0 in
    omega (arith, f.ends, length-drop a.at a.o.now)

pub returns : goal.returns
unfolding string_at
returns c =
    let a = c.args in
    let f = zero_some a.o.now a.at c.bytes_at-near.result.now c.bytes_at-near.ensures c.zero_at.result c.zero_at.ensures c.in_ok-len.len c.in_ok-len.was c.if-at-lt32.false in
    some_is _ _ (fits_string a.o.now a.at f.0) _ (ap (λ n. record { start = a.from + a.at; len = n }) (sym f.1))
