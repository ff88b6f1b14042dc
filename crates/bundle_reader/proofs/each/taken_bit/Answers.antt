use mathlib.Core.Path.{refl, sym, ap, ◌∙◌}
use mathlib.Core.Bool.{false}
use Rattle.std.proofs.lemmas.Result.{IfOk-at_ok}
use Rattle.wire.specs.Bits.{bits_below}
use Rattle.wire.proofs.BitLaws.{bits_same, bits_none}
use Rattle.bundle_reader.specs.Slots.{takes}
use Rattle.bundle_reader.proofs.EachLaws.{bit-taken}
use Rattle.bundle_reader.proofs.each.taken_bit.Goals as goal

pub returns-in-Ok : goal.returns-in-Ok
returns-in-Ok c =
    bit-taken c.in-Ok.image.index (IfOk-at_ok _ c.in-Ok.is c.requires)
    ∙ bits_same 64 _ _ (λ i l. refl)
    ∙ ap (λ r. bits_below 64 (takes r)) (sym c.in-Ok.is)

pub returns-in-Err : goal.returns-in-Err
returns-in-Err c = sym (ap (λ r. bits_below 64 (takes r)) c.in-Err.is ∙ bits_same 64 _ (λ i. false) (λ i l. refl) ∙ bits_none 64)
