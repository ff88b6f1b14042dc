use native.Mathlib.Omega.{arith}
use borrow.Author.Rules.{rules}
use Rattle.std.proofs.Common.{refl, ap, ◌<◌, length}
use Rattle.offload_binary.specs.Contents.{texts, string_bytes}
use Rattle.offload_binary_writer.proofs.WriteLaws.{laid_none, bytes_text, pair_room, pair_turn}
use Rattle.offload_binary_writer.proofs.write_strings.Goals as goal

pub put_string-at-requires : goal.put_string-at-requires
put_string-at-requires c =
    let a = c.args in
    let l = c.loop-i in
    let r = pair_room a.out.now a.buf.now a.pairs.now a.first c.requires.0 c.requires.2 l.i (omega arith) in
    (omega (arith, l.invariant.at_is, c.requires.0), omega (arith, l.invariant.at_is, l.invariant.same, ap length c.bytes_at-key.ensures, r))

pub put_string-at-requires-in-loop-i : goal.put_string-at-requires-in-loop-i
put_string-at-requires-in-loop-i c =
    let a = c.args in
    let l = c.loop-i in
    let r = pair_room a.out.now a.buf.now a.pairs.now a.first c.requires.0 c.requires.2 l.i (omega arith) in
    let k = c.put_string-at.auto.out in
    (omega (arith, l.invariant.at_is, c.requires.0, c.put_string-at.ensures.0), omega (arith, l.invariant.at_is, l.invariant.same, ap length c.bytes_at-key.ensures, ap length c.bytes_at-text.ensures, c.put_string-at.ensures.0, r))

pub loop-i-preserved : goal.loop-i-preserved
loop-i-preserved c =
    let a = c.args in
    let l = c.loop-i in
    let k = c.put_string-at in
    let t = c.put_string-at-in-loop-i in
    let more : l.i < length a.pairs.now = omega arith in
    record {
      at_is = omega (arith, l.invariant.at_is, k.ensures.0, t.ensures.0, ap length c.bytes_at-key.ensures, ap length c.bytes_at-text.ensures, bytes_text a.out.now a.buf.now a.pairs.now a.first c.requires.0 c.requires.2 l.i more);
      out_is =
          pair_turn a.out.now a.buf.now a.pairs.now a.first c.requires.0 c.requires.2 l.i more c.bytes_at-key.result.now c.bytes_at-text.result.now c.bytes_at-key.ensures c.bytes_at-text.ensures l.out k.new.out t.new.out l.at k.result
          l.invariant.out_is l.invariant.at_is k.ensures.0 k.ensures.1 t.ensures.1;
      same = search rules;
    }

pub loop-i-init : goal.loop-i-init
unfolding texts string_bytes
loop-i-init c = let a = c.args in record { at_is = omega arith; out_is = laid_none a.out.now a.buf.now a.first; same = refl }
