-- Which number of an answer a C call of this crate gives. Definitions only.
use Rattle.std.specs.Prelude.{ℕ, cond, List, [], ◌∷◌, eqb, get_or}
use Rattle.offload_binary.specs.Binary.{no_pair}
use Rattle.bundle.specs.declared.Written as B
use Rattle.offload_binary.specs.declared.Written as W
use Rattle.offload_binary.specs.declared.Tags.{Tags}
use Rattle.offload_binary.specs.declared.Step.{Step}

-- of what a writer returns: 0 its number, 1 its place, any other its length
unfoldable pub field : ℕ → ℕ → ℕ → ℕ → ℕ
field k number place length = cond (eqb k 0) number (cond (eqb k 1) place length)

abbrev pub bundle_field : ℕ → B.Written → ℕ
bundle_field k w = field k w.number w.place w.length

abbrev pub binary_field : ℕ → W.Written → ℕ
binary_field k w = field k w.number w.place w.len

-- the kinds and the flags, given as numbers
abbrev pub tags : ℕ → ℕ → ℕ → Tags
tags image offload flags = record { image_kind = image; offload_kind = offload; flags = flags }

-- what a reader answers, with string pair i alone, and where it then stands
unfoldable pub step_numbers : ℕ → Step → List ℕ
step_numbers i s =
    let b = s.answer.binary in
    let p = get_or b.pairs i no_pair in
    s.answer.number ∷ s.answer.place ∷ b.start ∷ b.size ∷ b.image_kind ∷ b.offload_kind ∷ b.flags ∷ b.image.start ∷ b.image.len ∷ b.count
    ∷ p.key.start ∷ p.key.len ∷ p.text.start ∷ p.text.len ∷ s.cursor.position ∷ s.cursor.taken ∷ []
