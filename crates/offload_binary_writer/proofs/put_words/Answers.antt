use borrow.Author.Rules.{rules}
use native.Mathlib.Omega.{arith}
use Rattle.std.proofs.Common.{◌+◌, ◌*◌, ◌≤◌, sym, ap, ◌∙◌, length, drop}
use lib.ListN.{drop_of_length-le}
use Rattle.wire.specs.Bytes.{overwrite}
use Rattle.wire.proofs.OverwriteLaws.{overwrite_nil}
use Rattle.offload_binary_writer.specs.Code.{word_bytes}
use Rattle.offload_binary_writer.proofs.WriteLaws.{words_turn}
use Rattle.offload_binary_writer.proofs.put_words.Goals as goal

pub loop-i-preserved : goal.loop-i-preserved
loop-i-preserved c =
    let w = c.args.words.now in
    let l = c.loop-i in
    record {
      rest = ap (λ o. overwrite o (8 * (l.i + 1)) (word_bytes (drop (l.i + 1) w))) c.put_word8.ensures
          ∙ words_turn l.out w l.i (omega arith) (omega (arith, c.requires, l.invariant.same))
          ∙ l.invariant.rest;
      same = search rules;
    }

pub returns : goal.returns
unfolding word_bytes
returns c =
    let l = c.loop-i in
    let w : length c.args.words.now ≤ l.i = omega arith in
    sym (overwrite_nil l.out (8 * l.i)) ∙ ap (λ r. overwrite l.out (8 * l.i) (word_bytes r)) (sym (drop_of_length-le c.args.words.now w)) ∙ l.invariant.rest
