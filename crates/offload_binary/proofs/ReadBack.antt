-- What the binary writer wrote is read back: at any place, and whatever follows it. Assumes nothing.
use Prim.Native.Nat.{ℕ, suc, ◌+◌, ◌*◌, ◌<◌, ◌≤◌}
use native.Mathlib.Omega.{arith}
use native.Mathlib.Nat.{zero-add}
use mathlib.Core.Path.{◌≡◌, refl, sym, ap, ap₂, ◌∙◌}
use mathlib.Core.Bool.{true, false, ◌&&◌, ◌||◌, and-false}
use mathlib.Core.List.{List, [], ◌∷◌, ◌++◌, map, append-nil}
use lib.ListN.{length, get_or, take, drop, length-append}
use lib.Seq.{take_at, drop-append-add}
use lib.Dec.{ltb, eqb}
use borrow.Author.Tests.{eq-eqb, le-ltb, lt-ltb, ne_eqb}
use Rattle.wire.proofs.TabLaws.{length_tab, tab_same, map_tab}
use Rattle.wire.specs.Lists.{tab}
use Rattle.wire.specs.Word.{word}
use Rattle.wire.specs.Bytes.{same, empty}
use Rattle.wire.specs.Stop.{go, earlier}
use Rattle.wire.proofs.Bools.{clash, neither_or, yes_not}
use Rattle.wire.proofs.ByteLaws.{eq_same}
use Rattle.wire.proofs.FirstLaws.{any_none}
use Rattle.wire.proofs.StopLaws.{⨾-both, stop_if-go, earlier-same}
use Rattle.offload_binary.specs.Lists.{slots}
use Rattle.offload_binary.specs.Binary.{bytes_at, run, ended, magic, size_of, entry_at, own, entry_of, key_at, text_at, string_at, pair, key, bad_head, bad_span, bad_kinds, bad_table, bad_string, bad_pair, bad_strings, bad_image, body_stop, binary_stop, no_pair, hands_back, binary}
use Rattle.offload_binary.specs.Contents.{KeyText, no_key_text, Contents, key_text, contents, texts, image_start, written, key_of}
use Rattle.offload_binary.specs.declared.StringPair.{StringPair}
use Rattle.offload_binary.proofs.ListLaws.{tab_get_d, take-slots}
use Rattle.offload_binary.proofs.WrittenLaws.{Good, body, written_body, length-written, version_read, size_read, entry_at_read, entry_size_read, entry, entry_read, offset, offset_is, string_there, image-there, image_end_lem, end_eq, strings_end_lem, strings_eq, start_eq, run_ends, texts-key, texts-text, length-texts}

ended_at : (t m : List ℕ) → ended t ≡ false → ended (t ++ (0 ∷ m)) ≡ true
unfolding ended
ended_at t m e = rw (run_ends t m e) (lt-ltb (length t) (length (t ++ (0 ∷ m))) (simp length-append (omega arith)))

-- the strings of a written binary, read in w = written g ++ r
module _ (g : Contents) (r : List ℕ) (ok : Good g) where
  abbrev ts : List KeyText
  ts = g.strings

  abbrev xs : List (List ℕ)
  xs = texts ts

  abbrev w : List ℕ
  w = body g r

  -- string j
  run-there : (j : ℕ) → j < length xs → run (drop (offset g r ok j) w) ≡ length (get_or xs j [])
  run-there j h = ap run (string_there g r ok j h) ∙ run_ends (get_or xs j []) _ (ok.clean j h)

  string_good : (j : ℕ) → j < length xs → bad_string w (offset g r ok j) ≡ false
  unfolding bad_string
  string_good j h =
      let low : 32 ≤ offset g r ok j = omega (arith, offset_is g r ok j h, start_eq g r) in
      let end : ended (drop (offset g r ok j) w) ≡ true = ap ended (string_there g r ok j h) ∙ ended_at (get_or xs j []) _ (ok.clean j h) in
      let short : run (drop (offset g r ok j) w) ≤ 256 = omega (arith, run-there j h, ok.short j h) in
      neither_or _ _ (neither_or _ _ (le-ltb _ _ low) (yes_not _ end)) (le-ltb _ _ short)

  string_back : (j : ℕ) → j < length xs → take (run (drop (offset g r ok j) w)) (drop (offset g r ok j) w) ≡ get_or xs j []
  string_back j h = ap₂ take (run-there j h) (string_there g r ok j h) ∙ take_at (get_or xs j []) _ _ refl

  -- pair i's key is string 2 i, its text the next
  key_at_lem : (i : ℕ) → key_at w 72 i ≡ offset g r ok (2 * i)
  unfolding key_at
  key_at_lem i = let z : 72 + 16 * i ≡ 72 + 8 * (2 * i) = omega arith in ap (word 8 w) z

  text_at_lem : (i : ℕ) → text_at w 72 i ≡ offset g r ok (2 * i + 1)
  unfolding text_at
  text_at_lem i = let z : 72 + 16 * i + 8 ≡ 72 + 8 * (2 * i + 1) = omega arith in ap (word 8 w) z

  key_below : (i : ℕ) → i < length ts → 2 * i < length xs
  key_below i h = omega (arith, length-texts ts)

  text-below : (i : ℕ) → i < length ts → 2 * i + 1 < length xs
  text-below i h = omega (arith, length-texts ts)

  some_key : (i : ℕ) → i < length ts → eqb (run (drop (key_at w 72 i) w)) 0 ≡ false
  some_key i h =
      ap (λ k. eqb (run (drop k w)) 0) (key_at_lem i)
      ∙ ap (λ k. eqb k 0) (run-there (2 * i) (key_below i h) ∙ ap length (texts-key ts i (2 * i) refl))
      ∙ full (key_of ts i) (ok.some i h)
    where
      full : (x : List ℕ) → empty x ≡ false → eqb (length x) 0 ≡ false
      full [] e = clash true (unfold empty in refl) (unfold empty in e)
      full (y ∷ x) e = ne_eqb (suc (length x)) 0 (λ q. omega arith)

  pair-good : (i : ℕ) → i < length ts → bad_pair w 72 i ≡ false
  unfolding bad_pair
  pair-good i h =
      neither_or _ _
      (neither_or _ _ (ap (bad_string w) (key_at_lem i) ∙ string_good (2 * i) (key_below i h)) (ap (bad_string w) (text_at_lem i) ∙ string_good (2 * i + 1) (text-below i h)))
      (some_key i h)

  key_back : (i : ℕ) → i < length ts → key w 72 i ≡ key_of ts i
  unfolding key bytes_at string_at
  key_back i h =
      ap (λ k. take (run (drop (key_at w 72 i) w)) (drop k w)) (zero-add (key_at w 72 i))
      ∙ ap (λ k. take (run (drop k w)) (drop k w)) (key_at_lem i)
      ∙ string_back (2 * i) (key_below i h) ∙ texts-key ts i (2 * i) refl

  keys_differ : (i : ℕ) → i < length ts → earlier same (key w 72) i ≡ false
  keys_differ i h = earlier-same same (length ts) (key w 72) (key_of ts) key_back i h ∙ ok.distinct i h

-- own bytes: what the size says is what is written
module _ (g : Contents) (r : List ℕ) (ok : Good g) where
  abbrev b : List ℕ
  b = written g ++ r

  whole : b ≡ body g r
  whole = written_body g r

  alone : written g ≡ body g []
  alone = sym (append-nil (written g)) ∙ written_body g []

  pub size_back : size_of b ≡ length (written g)
  size_back = ap size_of whole ∙ size_read g r ok ∙ sym (length-written g)

  own_back : own b ≡ written g
  unfolding own
  own_back = take_at (written g) r (size_of b) (sym size_back)

  entry_back : entry_of (own b) (entry_at b) ≡ entry g r ok
  entry_back =
      ap₂ entry_of own_back (ap entry_at whole ∙ entry_at_read g r ok ∙ sym (entry_at_read g [] ok) ∙ ap entry_at (sym alone))
      ∙ ap (λ o. entry_of o (entry_at o)) alone ∙ entry_read g [] ok

  pub long : 72 + 16 * length g.strings ≤ length (written g)
  long = omega (arith, length-written g, image_end_lem g r, end_eq g r, strings_end_lem g r, strings_eq g r, start_eq g r)

  head_good : bad_head b ≡ false
  unfolding bad_head
  head_good =
      let l : 32 ≤ length b = simp length-append (omega (arith, long)) in
      let m : same (take 4 b) magic ≡ true = ap (λ x. same (take 4 x) magic) whole ∙ eq_same magic magic refl in
      let v : word 4 b 4 ≡ 1 = ap (λ x. word 4 x 4) whole ∙ version_read g r ok in
      neither_or _ _ (neither_or _ _ (le-ltb _ _ l) (yes_not _ m)) (yes_not _ (eq-eqb _ _ v))

  span-good : bad_span b ≡ false
  unfolding bad_span
  span-good =
      let e : entry_at b ≡ 32 = ap entry_at whole ∙ entry_at_read g r ok in
      let l : 72 ≤ size_of b = omega (arith, long, size_back) in
      let m : size_of b ≤ length b = simp length-append (omega (arith, size_back)) in
      let v : word 8 b 24 ≡ 40 = ap (λ x. word 8 x 24) whole ∙ entry_size_read g r ok in
      let h : 32 ≤ entry_at b = omega arith in
      let k : entry_at b + 40 ≤ size_of b = omega arith in
      neither_or _ _ (neither_or _ _ (neither_or _ _ (neither_or _ _ (le-ltb _ _ l) (le-ltb _ _ m)) (yes_not _ (eq-eqb _ _ v))) (le-ltb _ _ h)) (le-ltb _ _ k)

  body_good : body_stop (written g) (entry g r ok) ≡ go
  unfolding body_stop bad_kinds bad_strings bad_table bad_image
  body_good =
      let n : ℕ = length g.strings in
      let size : ℕ = length (written g) in
      let i : 32 ≤ image_start g = omega (arith, strings_end_lem g r, strings_eq g r, start_eq g r) in
      let j : image_start g + length g.image ≤ size = omega (arith, length-written g, image_end_lem g r, end_eq g r) in
      let table : (ltb 32 n || ltb 0 n && (ltb 72 32 || ltb size (72 + 16 * n))) ≡ false = rw (le-ltb _ _ ok.few, le-ltb _ _ long) (and-false (ltb 0 n)) in
      let pairs = any_none n _ (λ i h. ap (λ o. bad_pair o 72 i) alone ∙ pair-good g [] ok i h) in
      let keys = any_none n _ (λ i h. ap (λ o. earlier same (key o 72) i) alone ∙ keys_differ g [] ok i h) in
      ⨾-both _ _ (stop_if-go 15 _ (neither_or _ _ (le-ltb _ _ ok.image_kind_lem) (le-ltb _ _ ok.offload_kind_lem)))
      (⨾-both _ _ (stop_if-go 16 _ (neither_or _ _ (neither_or _ _ table pairs) keys))
      (stop_if-go 17 _ (neither_or _ _ (le-ltb _ _ i) (le-ltb _ _ j))))

  -- nothing stops it
  pub read_go : binary_stop b ≡ go
  unfolding binary_stop
  read_go =
      ⨾-both _ _ (stop_if-go 13 _ head_good)
      (⨾-both _ _ (stop_if-go 14 _ span-good)
      (ap₂ body_stop own_back entry_back ∙ body_good))

  -- at any place of a longer sequence: the size, and what it holds
  module _ (p : List ℕ) where
    abbrev s : List ℕ
    s = p ++ b

    -- a part of the binary, in the sequence
    part : (k n : ℕ) → take n (drop (length p + k) s) ≡ take n (drop k (body g r))
    part k n = ap (take n) (drop-append-add p b k ∙ ap (drop k) whole)

    -- string j of the binary, in the sequence
    string_part : (j at : ℕ) → j < length (texts g.strings) → at ≡ offset g [] ok j → bytes_at s (string_at (length p) (written g) at) ≡ get_or (texts g.strings) j []
    unfolding bytes_at string_at
    string_part j at h e =
        let q : at ≡ offset g r ok j = e ∙ offset_is g [] ok j h ∙ sym (offset_is g r ok j h) in
        let n : run (drop at (written g)) ≡ run (drop (offset g r ok j) (body g r)) = ap₂ (λ o k. run (drop k o)) alone e ∙ run-there g [] ok j h ∙ sym (run-there g r ok j h) in
        part at (run (drop at (written g))) ∙ ap₂ (λ x y. take x (drop y (body g r))) n q ∙ string_back g r ok j h

    pair_back : (i : ℕ) → i < length g.strings → key_text s (pair (length p) (written g) 72 i) ≡ get_or g.strings i no_key_text
    unfolding key_text pair key_of
    pair_back i h =
        let k = string_part (2 * i) (key_at (written g) 72 i) (key_below g [] ok i h) (ap (λ o. key_at o 72 i) alone ∙ key_at_lem g [] ok i) ∙ texts-key g.strings i (2 * i) refl in
        let t = string_part (2 * i + 1) (text_at (written g) 72 i) (text-below g [] ok i h) (ap (λ o. text_at o 72 i) alone ∙ text_at_lem g [] ok i) ∙ texts-text g.strings i (2 * i + 1) refl in
        λ j. record { key = k j; text = t j }

    -- kinds, flags, image, keys and texts in order
    pub read_back : contents s (binary (length p) b) ≡ g
    unfolding contents hands_back binary bytes_at
    read_back =
        let n : ℕ = length g.strings in
        let pairs : List StringPair = tab n (pair (length p) (written g) 72) in
        let img : take (length g.image) (drop (length p + image_start g) s) ≡ g.image = part (image_start g) (length g.image) ∙ image-there g r ok in
        let str : map (key_text s) (take n (slots 32 no_pair pairs)) ≡ g.strings =
        ap (map (key_text s)) (take-slots 32 no_pair pairs n (length_tab n (pair (length p) (written g) 72)))
        ∙ map_tab (key_text s) n (pair (length p) (written g) 72)
        ∙ tab_same n _ (λ i. get_or g.strings i no_key_text) pair_back
        ∙ tab_get_d g.strings no_key_text in
        ap (contents s) (ap₂ (hands_back (length p)) own_back entry_back)
        ∙ (λ j. record { image_kind = g.image_kind; offload_kind = g.offload_kind; flags = g.flags; image = img j; strings = str j })
