-- Damaged sequences on each side of the lines of recovery (RULES B.25, B.26): proofs/RecoveryExamples.antt proves them by computation. Statements only.
use Rattle.std.specs.Prelude.{ℕ, ◌≡◌, List, [], ◌∷◌, ◌++◌, length, take, drop, replicate}
use Rattle.offload_binary.specs.Contents.{written}
use Rattle.offload_binary.specs.Examples.{bare, sm70, bares}
use Rattle.offload_binary.specs.Recovery.{taken, skipped, copied, recover, copied_to, skipped_to}
use Rattle.offload_binary.specs.RecoveryTheorems.{not_recovered}
use Rattle.offload_binary.specs.declared.Part.{Part}
use Rattle.offload_binary.specs.declared.Recovered.{Recovered}

abbrev pub part : ℕ → ℕ → Part
part start len = record { start = start; len = len }

abbrev pub found : ℕ → ℕ → Recovered
found length spans = record { number = 0; place = 0; length = length; spans = spans }

-- 7 bytes, the binary of 72, one byte, that of 112, the first again, 7 bytes
abbrev pub damaged : List ℕ
damaged = replicate 7 16 ++ (written bare ++ (1 ∷ (written sm70 ++ (written bare ++ replicate 7 173))))

-- the binary of 112 with its last byte missing, and another behind it
abbrev pub cut : List ℕ
cut = take 111 (written sm70) ++ written bare

-- a binary of 144 bytes whose image is one of 72; the same with another first byte
abbrev pub nested : List ℕ
nested = written (record { image_kind = 0; offload_kind = 0; flags = 0; image = written bare; strings = [] })

abbrev pub broken : List ℕ
broken = 17 ∷ drop 1 nested

pub record RecoveryExamples : Type 0 where
  pub parts : taken damaged ≡ part 7 72 ∷ part 80 112 ∷ part 192 72 ∷ []
  pub spans : skipped damaged ≡ part 0 7 ∷ part 79 1 ∷ part 264 7 ∷ []
  pub bytes : copied damaged ≡ written bare ++ (written sm70 ++ written bare)
  -- 256 bytes and three spans are room enough; one less of either is not
  pub enough : recover damaged 256 3 ≡ found 256 3
  pub short_output : recover damaged 255 3 ≡ not_recovered 12 0
  pub short_list : recover damaged 256 2 ≡ not_recovered 12 0
  pub list_written : skipped_to damaged 256 ((1 ∷ 1 ∷ []) ∷ (1 ∷ 1 ∷ []) ∷ (1 ∷ 1 ∷ []) ∷ (1 ∷ 1 ∷ []) ∷ []) ≡ (0 ∷ 7 ∷ []) ∷ (79 ∷ 1 ∷ []) ∷ (264 ∷ 7 ∷ []) ∷ (1 ∷ 1 ∷ []) ∷ []
  pub list_kept : skipped_to damaged 255 ((1 ∷ 1 ∷ []) ∷ (1 ∷ 1 ∷ []) ∷ (1 ∷ 1 ∷ []) ∷ []) ≡ (1 ∷ 1 ∷ []) ∷ (1 ∷ 1 ∷ []) ∷ (1 ∷ 1 ∷ []) ∷ []
  pub output_kept : copied_to damaged 2 (replicate 256 1) ≡ replicate 256 1
  -- nothing is skipped of what is not damaged: no span is needed
  pub sound : recover (written bare ++ written sm70) 184 0 ≡ found 184 0
  pub empty_sequence : recover [] 0 0 ≡ found 0 0
  -- no binary at all
  pub none : recover (16 ∷ 255 ∷ 16 ∷ 173 ∷ []) 0 1 ≡ found 0 1
  -- a binary that is cut short reaches into the next one, whose first byte is then its last: it is taken, and the rest of the next is skipped
  pub reaches : taken cut ≡ part 0 112 ∷ []
  pub rest : skipped cut ≡ part 112 71 ∷ []
  -- a binary inside another is found where the other is broken, and there alone
  pub whole_outside : taken nested ≡ part 0 144 ∷ []
  pub broken_outside : taken broken ≡ part 72 72 ∷ []
  -- 64 are taken; a 65th is refused, also where there is no room
  pub sixty_four : recover (bares 64) 4608 0 ≡ found 4608 0
  pub sixty_five : recover (bares 65) 0 0 ≡ not_recovered 18 4608
