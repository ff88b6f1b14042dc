use Rattle.std.proofs.Common.{length, sym, ap, ◌∙◌, arith}
use Rattle.wire.proofs.OverwriteLaws.{length-overwrite}
use Rattle.canonical_form.proofs.OrderLaws.{every_at}
use Rattle.canonical_form.proofs.WriteLaws.{next-length, next-over, last_over}
use Rattle.canonical_form.proofs.plan.put_pieces.Goals as goal

pub chunk-c-requires : goal.chunk-c-requires
chunk-c-requires c = every_at _ _ _ _ (omega arith) c.requires.0

pub loop-span-preserved : goal.loop-span-preserved
loop-span-preserved c =
    let a = c.args in
    let l = c.loop-span in
    let v = l.invariant in
    let h = c.chunk-c in
    let u = c.copy_at.new.out in
    record {
      size = ap length c.copy_at.ensures ∙ length-overwrite l.out l.q h.result.now ∙ v.size;
      long = next-length a.id.now l.out a.spans.now l.span-index l.q h.result.now u _ (omega arith) h.ensures ∙ v.long;
      written = next-over a.id.now l.out a.spans.now l.span-index l.q h.result.now u _ (omega arith) h.ensures c.copy_at.ensures (omega (arith, c.requires.1)) ∙ v.written;
    }

pub returns : goal.returns
returns c = let l = c.loop-span in let a = c.args in sym (last_over a.id.now l.out a.spans.now l.span-index l.q (omega arith)) ∙ l.invariant.written
