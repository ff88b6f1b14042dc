use mathlib.Core.Path.{sym, ap₂}
use mathlib.Core.Bool.{◌&&◌, ◌||◌}
use native.Mathlib.Omega.{arith}
use lib.Seq.{length-take-le}
use Rattle.entry_id.specs.Meaning.{feature}
use Rattle.entry_id.specs.Profile.{supported}
use Rattle.profile_form.proofs.PartLaws.{no_piece}
use Rattle.profile_form.proofs.parts.supported_piece.Goals as goal

-- `profile_form::supported_piece` meets its contract. Assumes nothing.
pub returns-then-n-eq0 : goal.returns-then-n-eq0
unfolding supported feature
returns-then-n-eq0 c = sym (no_piece c.args.marks.sramecc c.args.marks.xnack c.args.p.now c.if-n-eq0.true)

pub slice_bounds-name-length : goal.slice_bounds-name-length
slice_bounds-name-length c = sym (length-take-le _ c.args.p.now (omega arith))

pub returns : goal.returns
unfolding supported feature
returns c = ap₂ (λ a b. a && c.args.marks.sramecc || b && c.args.marks.xnack) c.same_bytes-is_sramecc.ensures c.same_bytes-is_xnack.ensures
