use native.Mathlib.Omega.{arith}
use mathlib.Core.Path.{ap, ◌∙◌}
use Rattle.std.proofs.Common.{Err}
use Rattle.std.proofs.lemmas.Result.{err_from_is_err_and}
use Rattle.bundle.specs.Results.{written_of}
use Rattle.bundle.specs.Layout.{packed_length, encode}
use Rattle.normal_form.specs.Code.{values}
use Rattle.normal_form.proofs.EncodeLaws.{says_big, says_room, says_done}
use Rattle.normal_form.proofs.write_entries.Goals as goal

pub returns-in_err-lengths : goal.returns-in_err-lengths
returns-in_err-lengths c =
    let es = values c.args.entries.now in
    let h = c.in_err-lengths.ensures in
    let s = says_big (packed_length es) (encode es) c.args.out.now h.1 in
    let e = err_from_is_err_and _ c.from_residual.ensures.1 in
    record { value = ap written_of e.1 ∙ ap (λ r. written_of (Err r)) (e.2 ∙ h.0) ∙ s.value; out_after = s.out_after }

pub returns-then-out-lengths : goal.returns-then-out-lengths
returns-then-out-lengths c =
    let es = values c.args.entries.now in
    let h = c.in_ok-lengths.ensures in
    let s = says_room (packed_length es) (encode es) c.args.out.now h.2 (omega (arith, h.1)) in
    record { value = ap (λ r. written_of (Err r)) c.at.ensures ∙ s.value; out_after = s.out_after }

pub returns : goal.returns
returns c =
    let es = values c.args.entries.now in
    let h = c.in_ok-lengths.ensures in
    let s = says_done (packed_length es) (encode es) c.args.out.now h.2 (omega (arith, h.1)) in
    record { value = ap (λ n. record { number = 0; place = 0; length = n }) h.1 ∙ s.value; out_after = c.put_bundle.ensures ∙ s.out_after }
