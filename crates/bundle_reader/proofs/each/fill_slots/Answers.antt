use native.Mathlib.Omega.{arith}
use Prim.Native.Nat.{◌<◌}
use mathlib.Core.Path.{◌≡◌, ap, sym, ◌∙◌, subst}
use Rattle.std.specs.Prelude.{Result, IfOk}
use Rattle.wire.specs.Bits.{bits_below}
use Rattle.wire.specs.declared.Refusal.{Refusal}
use Rattle.bundle.specs.Each.{slot_of}
use Rattle.bundle.specs.Results.{picked_of}
use Rattle.bundle.specs.declared.Image.{Image}
use Rattle.bundle_reader.specs.Slots.{choice, image_of, takes, picked_at}
use Rattle.entry_id.specs.Rules.{id_rules}
use Rattle.bundle_reader.proofs.PickLaws.{picked_lt}
use Rattle.bundle_reader.proofs.EachLaws.{over_none, over_more, word_none, word_more}
use Rattle.bundle_reader.proofs.each.fill_slots.Goals as goal

pub loop-k-init : goal.loop-k-init
loop-k-init c = (word_none _, over_none _ _)

pub taken_bit-word-requires : goal.taken_bit-word-requires
taken_bit-word-requires c =
    let a = c.args in
    let few = c.requires.few.1 in
    subst (λ (r : Result Image Refusal). IfOk r (λ image. image.index < 64)) (sym c.pick_for-picked.ensures)
    (picked_lt a.rows.now a.ids.now (id_rules.canon c.part_of.result.now) 64 few)

pub loop-k-preserved : goal.loop-k-preserved
unfolding picked_at
loop-k-preserved c =
    let a = c.args in
    let l = c.loop-k in
    let picked : c.pick_for-picked.result ≡ picked_at a.rows.now a.ids.now a.buffer.now a.names.now l.k =
    c.pick_for-picked.ensures ∙ ap (λ part. image_of a.rows.now (choice a.ids.now (id_rules.canon part))) c.part_of.ensures in (
      word_more _ l.k _ _ l.invariant.0 (c.taken_bit-word.ensures ∙ ap (λ r. bits_below 64 (takes r)) picked),
      over_more _ _ l.k _ _ (omega (arith, c.requires.room)) l.invariant.1 (c.slot_of.ensures ∙ ap (λ r. slot_of (picked_of r)) picked),
    )
