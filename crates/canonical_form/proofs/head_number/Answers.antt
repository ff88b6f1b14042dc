use Rattle.std.proofs.Common.{◌+◌, ◌%◌, ◌^◌, ◌∙◌, ap, ap₂}
use Rattle.wire.specs.Word.{word}
use Rattle.entry_id.specs.Canonical.{head_number}
use Rattle.canonical_form.proofs.head_number.Goals as goal

pub returns : goal.returns
unfolding head_number
returns c = ap₂ (λ x y. (x + y) % 2 ^ 64) c.word_at.ensures.0 (c.word_at-2.ensures.0 ∙ ap (word 8 c.args.head.now) c.saturating_sub-last.ensures)
