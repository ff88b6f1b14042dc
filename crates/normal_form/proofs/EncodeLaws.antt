-- What is written entry by entry is the packed form, and what a call that writes gives back. Assumes nothing.
use Prim.Native.Nat.{ℕ, ◌+◌, ◌<◌, ◌≤◌}
use native.Mathlib.Omega.{arith}
use native.Mathlib.Nat.{zero-add}
use native.Mathlib.Numerals.{add-one}
use mathlib.Core.Path.{◌≡◌, refl, sym, ap, ap₂, ◌∙◌}
use mathlib.Core.List.{List, [], ◌∷◌, ◌++◌}
use lib.ListN.{length, get_or, drop, length-append, length-map, get_or-map, drop_of_length-le}
use lib.Seq.{drop-cons}
use borrow.Author.Tests.{lt-ltb, le-ltb}
use Rattle.wire.specs.Limit.{limit}
use Rattle.wire.specs.Bytes.{overwrite}
use Rattle.wire.specs.Lists.{total}
use Rattle.wire.specs.Stop.{stop, ◌⨾◌, stop_if, stop_when, unrefused, over, output}
use Rattle.wire.specs.Word.{bytes_of}
use Rattle.wire.proofs.OverwriteLaws.{overwrite_in, overwrite_nil, overwrite_then, length-overwrite}
use Rattle.wire.proofs.WordLaws.{length_bytes_of}
use Rattle.bundle.specs.Table.{Row, magic}
use Rattle.bundle.specs.Entry.{Entry}
use Rattle.bundle.specs.Layout.{row_bytes, row_size, entry_size, table, bundle, packed_end, packed_length, images, packed, encode}
use Rattle.bundle.specs.Normal.{room_stop, answer}
use Rattle.bundle.specs.declared.Written.{Written}
use Rattle.bundle.proofs.LayoutLaws.{length-magic, length-row_bytes}
use Rattle.bundle.proofs.PackLaws.{length-packed, packed_lengths}
use Rattle.bundle.proofs.NormalLaws.{room_stop-go}
use Rattle.normal_form.specs.Code.{no_held, value, values}
use Rattle.normal_form.specs.declared.Entry.{Entry as Held}

-- ---- a row

pub put_line : (d : List ℕ) (at offset size len : ℕ) (id : List ℕ) → length id ≡ len → at + 24 + length id ≤ length d
    → overwrite (overwrite (overwrite (overwrite d at (bytes_of 8 offset)) (at + 8) (bytes_of 8 size)) (at + 16) (bytes_of 8 len)) (at + 24) id
    ≡ overwrite d at (row_bytes (record { offset = offset; size = size; id = id }))
unfolding row_bytes
put_line d at offset size len id e h =
    let a = bytes_of 8 offset in
    let b = bytes_of 8 size in
    let n = bytes_of 8 len in
    let la : length a ≡ 8 = length_bytes_of 8 offset in
    let lb : length b ≡ 8 = length_bytes_of 8 size in
    let ln : length n ≡ 8 = length_bytes_of 8 len in
    let ab : length (a ++ b) ≡ 16 = simp length-append (omega arith) in
    let abn : length (a ++ b ++ n) ≡ 24 = simp length-append (omega arith) in
    ap (λ r. overwrite (overwrite r (at + 16) n) (at + 24) id) (overwrite_then d at (at + 8) a b (omega arith) (omega arith))
    ∙ ap (λ r. overwrite r (at + 24) id) (overwrite_then d at (at + 16) (a ++ b) n (omega arith) (omega arith))
    ∙ overwrite_then d at (at + 24) (a ++ b ++ n) id (omega arith) (omega arith)
    ∙ ap (λ z. overwrite d at (a ++ b ++ bytes_of 8 z ++ id)) (sym e)

-- ---- entries one after another

pub values_at : (es : List Held) (i : ℕ) → i < length es → drop i (values es) ≡ value (get_or es i no_held) ∷ drop (i + 1) (values es)
values_at es i h =
    drop-cons (values es) i (value no_held) (omega (arith, length-map es value))
    ∙ ap₂ (λ e k. e ∷ drop k (values es)) (get_or-map value es i no_held) (sym (add-one i))

pub values_end : (es : List Held) (i : ℕ) → length es ≤ i → drop i (values es) ≡ []
values_end es i h = drop_of_length-le (values es) {i = i} (omega (arith, length-map es value))

-- what is left to be written from `at` on, in an output with so much room: with that, the output is `whole`
pub record Left (room : ℕ) (whole left : List ℕ) (at : ℕ) (now : List ℕ) : Type 0 where
  pub all : overwrite now at left ≡ whole
  pub within : at + length left ≤ room
  pub same_room : length now ≡ room

pub left_all : (out left : List ℕ) (at : ℕ) → at + length left ≤ length out → Left (length out) (overwrite out at left) left at out
left_all out left at h = record { all = refl; within = h; same_room = refl }

pub left_next : (room : ℕ) (whole x left : List ℕ) (at n : ℕ) (now : List ℕ) → length x ≡ n → Left room whole (x ++ left) at now → Left room whole left (at + n) (overwrite now at x)
left_next room whole x left at n now e l =
    let s = length-append x left in
    record {
      all = overwrite_then now at (at + n) x left (omega arith) (omega (arith, s, l.within, l.same_room)) ∙ l.all;
      within = omega (arith, s, l.within);
      same_room = length-overwrite now at x ∙ l.same_room;
    }

pub left_none : (room : ℕ) (whole : List ℕ) (at : ℕ) (now : List ℕ) → Left room whole [] at now → now ≡ whole
left_none room whole at now l = sym (overwrite_nil now at) ∙ l.all

pub table-length : (base : ℕ) (es : List Entry) → length (table (packed base es)) ≡ total row_size es
unfolding table packed total
table-length base [] = refl
table-length base (e ∷ es) = simp (length-append, length-row_bytes) (omega (arith, table-length (base + length e.image) es))

-- a turn: entry i is the next
module _ (es : List Held) (i : ℕ) (h : i < length es) where
  abbrev e : Held
  e = get_or es i no_held

  abbrev more : List Entry
  more = drop (i + 1) (values es)

  pub images_size : length (images (drop i (values es))) ≡ length e.image.now + length (images more)
  unfolding images
  images_size = rw (values_at es i h) (length-append e.image.now (images more))

  pub sums : (total row_size (drop i (values es)) ≡ 24 + length e.id.now + total row_size more) × (total entry_size (drop i (values es)) ≡ 24 + length e.id.now + length e.image.now + total entry_size more)
  unfolding total
  sums = rw (values_at es i h) (refl, refl)

  module _ {room : ℕ} {whole : List ℕ} {at : ℕ} {now : List ℕ} where
    pub images_turn : Left room whole (images (drop i (values es))) at now → Left room whole (e.image.now ++ images more) at now
    unfolding images
    images_turn l = rw (values_at es i h) at l

    module _ (offset : ℕ) (l : Left room whole (table (packed offset (drop i (values es)))) at now) where
      abbrev r : Row
      r = record { offset = offset; size = length e.image.now; id = e.id.now }

      pub table_turn : Left room whole (row_bytes r ++ table (packed (offset + length e.image.now) more)) at now
      unfolding table packed
      table_turn = rw (values_at es i h) at l

      pub row_room : at + (24 + length e.id.now) ≤ room
      row_room = omega (arith, table_turn.within, length-append (row_bytes r) (table (packed (offset + length e.image.now) more)), length-row_bytes r)

-- the four writes
module _ (es : List Entry) (base n : ℕ) (d : List ℕ) (b : base ≡ packed_end es) (ln : n ≡ length es) (room : packed_length es ≤ length d) where
  abbrev c : List ℕ
  c = bytes_of 8 n

  abbrev t : List ℕ
  t = table (packed base es)

  abbrev m : List ℕ
  m = images es

  pub table_room : packed_end es ≡ 32 + length t
  unfolding packed_end
  table_room = ap (λ k. 32 + k) (sym (table-length base es))

  encoded : encode es ≡ magic ++ c ++ t ++ m
  unfolding encode bundle
  encoded = ap₂ (λ k q. magic ++ bytes_of 8 k ++ table (packed q es) ++ m) (length-packed (packed_end es) es ∙ sym ln) (sym b)

  pub put_all : overwrite (overwrite (overwrite (overwrite d 0 magic) 24 c) 32 t) base m ≡ over (encode es) d
  unfolding over
  put_all =
      let lm : length magic ≡ 24 = length-magic in
      let lc : length c ≡ 8 = length_bytes_of 8 n in
      let lt : base ≡ 32 + length t = b ∙ table_room in
      let li : base + length m ≡ packed_length es = ap (λ k. k + length m) b ∙ sym (packed_lengths es) in
      let mc : length (magic ++ c) ≡ 32 = length-append magic c ∙ omega arith in
      let mct : length (magic ++ c ++ t) ≡ base = length-append (magic ++ c) t ∙ omega arith in
      let all : length (magic ++ c ++ t ++ m) ≤ length d = omega (arith, length-append (magic ++ c ++ t) m) in
      ap (λ o. overwrite (overwrite o 32 t) base m) (overwrite_then d 0 24 magic c (omega arith) (omega arith))
      ∙ ap (λ o. overwrite o base m) (overwrite_then d 0 32 (magic ++ c) t (omega arith) (omega arith))
      ∙ overwrite_then d 0 base (magic ++ c ++ t) m (omega arith) (omega arith)
      ∙ overwrite_in d 0 (magic ++ c ++ t ++ m) (omega arith)
      ∙ ap (λ k. magic ++ c ++ t ++ m ++ drop k d) (zero-add (length (magic ++ c ++ t ++ m)))
      ∙ ap (λ x. x ++ drop (length x) d) (sym encoded)

-- ---- the answers

module _ (len : ℕ) (bytes out : List ℕ) where
  stop_big : limit < len → room_stop len (length out) ≡ stop 11 0
  unfolding room_stop stop_if stop_when ◌⨾◌
  stop_big h = rw (lt-ltb limit len h)

  stop_room : len ≤ limit → length out < len → room_stop len (length out) ≡ stop 12 0
  unfolding room_stop stop_if stop_when ◌⨾◌
  stop_room h k = rw (le-ltb limit len h, lt-ltb (length out) len k)

  pub record Says (written : Written) (after : List ℕ) : Type 0 where
    pub value : written ≡ answer (room_stop len (length out)) len
    pub out_after : after ≡ output (room_stop len (length out)) bytes out

  pub says_big : limit < len → Says (record { number = 11; place = 0; length = 0 }) out
  unfolding answer unrefused output
  says_big h = record { value = rw (stop_big h); out_after = rw (stop_big h) }

  pub says_room : len ≤ limit → length out < len → Says (record { number = 12; place = 0; length = 0 }) out
  unfolding answer unrefused output
  says_room h k = record { value = rw (stop_room h k); out_after = rw (stop_room h k) }

  pub says_done : len ≤ limit → len ≤ length out → Says (record { number = 0; place = 0; length = len }) (over bytes out)
  unfolding answer unrefused output
  says_done h k = record { value = rw (room_stop-go len (length out) h k); out_after = rw (room_stop-go len (length out) h k) }
