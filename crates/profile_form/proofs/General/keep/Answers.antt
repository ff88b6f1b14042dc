use Rattle.std.proofs.Common.{refl, arith}
use Rattle.canonical_form.proofs.MadeLaws.{form_some}
use Rattle.profile_form.proofs.WriteLaws.{room_no, written_none, written_all}
use Rattle.profile_form.proofs.General.keep.Goals as goal

pub returns-then-out-length : goal.returns-then-out-length
returns-then-out-length c = let x = c.args.self.now.text.now in written_none x c.args.out.now (room_no _ x (omega arith))

pub returns : goal.returns
returns c = let k = c.args.self.now in
    written_all k.text.now c.args.out.now _ _ (omega arith) (form_some k.text.now _ _ k.some refl k.keyed) c.copy_at.ensures
