-- What holds of every offload binary that the binary writer writes. Statements only: `Theorems` is proved in proofs/Theorems.antt.
use Rattle.std.specs.Prelude.{ℕ, ◌^◌, ◌<◌, ◌≡◌, false, List, ◌++◌, length}
use Rattle.offload_binary.specs.Binary.{size_of, bad_kinds, binary_stop, binary}
use Rattle.offload_binary.specs.Contents.{Contents, contents, written, bad_key_texts, too_big}

-- what the binary writer takes: none of 15, 16 and 11 is given for it; "4-byte flags"
pub record Writable (g : Contents) : Type 0 where
  pub kinds : bad_kinds g.image_kind g.offload_kind ≡ false
  pub flags : g.flags < 256 ^ 4
  pub strings : bad_key_texts g.strings ≡ false
  pub fits : too_big g ≡ false

-- what is written, behind any bytes and before any others: none of 13 to 17 refuses it, "The size counts all of it", and it holds the kinds, flags, image, keys and texts given, in order
pub record ReadsBack (g : Contents) (front rest : List ℕ) : Type 0 where
  pub sound : (binary_stop (written g ++ rest)).number ≡ 0
  pub size : size_of (written g ++ rest) ≡ length (written g)
  pub holds : contents (front ++ (written g ++ rest)) (binary (length front) (written g ++ rest)) ≡ g

pub record Theorems : Type 0 where
  pub reads_back : (g : Contents) → Writable g → (front rest : List ℕ) → ReadsBack g front rest
