use Rattle.std.proofs.Common.{sym, refl, ◌∙◌, length, arith}
use Rattle.std.proofs.lemmas.Slice.{put_mid-paste}
use Rattle.wire.proofs.OverwriteLaws.{paste_all, overwrite-not}
use Rattle.wire_copy.proofs.copy_at.Goals as goal
use Rattle.wire_copy.proofs.copy_at.Goals.{else-at-out-via-then-at-out+else-src-out, else-at-out-via-else-at-out}

pub returns-then-src-out : goal.returns-then-src-out
returns-then-src-out c =
    let a = c.args in
    let src = a.src.now in
    put_mid-paste a.at _ a.out.now _ src (length src) c.copy_from_slice.ensures.after (omega arith) refl ∙ paste_all a.out.now a.at src (omega arith)

pub returns-else-at-out : goal.returns-else-at-out
returns-else-at-out c =
    let a = c.args in
    sym (overwrite-not a.out.now a.at a.src.now (elim c.else-at-out.branch [ else-at-out-via-then-at-out+else-src-out w ↦ omega arith | else-at-out-via-else-at-out w ↦ omega arith ]))
