use mathlib.Core.Path.{refl, sym, ap, ◌∙◌}
use Rattle.std.proofs.Common.{Some}
use Rattle.bundle_compare.proofs.FindLaws.{images-same, images-other}
use Rattle.bundle_compare.proofs.find.first_difference.Goals.{else-x-y-via-then-x-y+else-n-x, else-x-y-via-else-x-y}
use Rattle.bundle_compare.proofs.find.first_difference.Goals as goal

pub returns-then-n-x : goal.returns-then-n-x
returns-then-n-x c = rw (images-same c.args.x.now c.args.y.now c.if-x-y.true (sym c.common_prefix-n.ensures ∙ c.if-n-x.true)) refl

pub returns : goal.returns
returns c =
    let a = c.args in
    let n = c.common_prefix-n in
    rw (images-other a.x.now a.y.now (λ p q. elim c.else-x-y.branch [
      | else-x-y-via-then-x-y+else-n-x w ↦ w.if-n-x.false (n.ensures ∙ q)
      | else-x-y-via-else-x-y w ↦ w.if-x-y.false p
    ])) (ap Some n.ensures)
