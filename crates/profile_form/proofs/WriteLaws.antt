-- Forms written to the start of a buffer. Assumes nothing.
use Prim.Native.Nat.{ℕ, ◌+◌, ◌-◌, ◌%◌, ◌^◌, ◌≤◌, ◌<◌}
use native.Mathlib.Omega.{arith}
use Rattle.std.proofs.Common.{Option, Some, None}
use mathlib.Core.Path.{◌≡◌, refl, sym, ap, ap₂, ◌∙◌, subst}
use mathlib.Core.List.{List, [], ◌++◌, append_assoc}
use lib.ListN.{length, take, drop, length-append, length-drop}
use lib.Seq.{drop-append-le, take_at, take_all, length-take-le}
use borrow.Author.Tests.{le-leb, lt-leb}
use Rattle.wire.specs.Bytes.{overwrite}
use Rattle.wire.proofs.OverwriteLaws.{overwrite_in, overwrite_then}
use Rattle.entry_id.specs.Canonical.{head_key, head_number, in_room}
use Rattle.canonical_form.specs.declared.Form.{Form}
use Rattle.canonical_form.specs.Made.{compared_length, form_of}
use Rattle.canonical_form.proofs.MadeLaws.{form_some, no_form}
use Rattle.profile_form.specs.Parts.{renamed, Renameable, Written}
use Rattle.profile_form.specs.declared.parts.Card.{Card}

abbrev pub card : ℕ → ℕ → ℕ → Card
card kind at stop = record { kind = kind; at = at; stop = stop }

pub room_no : (room : ℕ) (c : List ℕ) → room < length c → in_room room c ≡ []
unfolding in_room
room_no room c h = rw (lt-leb (length c) room h)

pub room_yes : (room : ℕ) (c : List ℕ) → length c ≤ room → in_room room c ≡ c
unfolding in_room
room_yes room c h = rw (le-leb (length c) room h)

pub room_nil : (room : ℕ) → in_room room [] ≡ []
room_nil room = room_yes room [] (omega arith)

-- nothing is written
pub written_none : (c before : List ℕ) → in_room (length before) c ≡ [] → Written c before before None
written_none c before e = let w = no_form (in_room (length before) c) before e in record { form_is = w.0; text = w.1 }

-- all of it is written
pub written_all : (c before after : List ℕ) (r : Option Form) → length c ≤ length before → r ≡ form_of c → after ≡ overwrite before 0 c → Written c before after r
written_all c before after r h f t =
    let e = room_yes (length before) c h in
    let z : 0 + length c ≡ length c = omega arith in
    record {
      form_is = f ∙ ap form_of (sym e);
      text = t ∙ overwrite_in before 0 c (omega arith) ∙ ap (λ k. c ++ drop k before) z ∙ sym (ap (λ l. l ++ drop (length l) before) e);
    }

-- ---- the text with another name

module _ (x : List ℕ) (at stop : ℕ) (p : List ℕ) (low : at ≤ stop) (high : stop ≤ length x) where
  front_long : length (take at x) ≡ at
  front_long = length-take-le at x (omega arith)

  pub renamed-long : length (renamed x at stop p) ≡ at + length p + (length x - stop)
  unfolding renamed
  renamed-long = omega (arith, length-append (take at x ++ p) (drop stop x), length-append (take at x) p, front_long, length-drop stop x)

  module _ (out : List ℕ) (fits : at + length p + (length x - stop) ≤ length out) where
    two : overwrite (overwrite out 0 (take at x)) at p ≡ overwrite out 0 (take at x ++ p)
    two = overwrite_then out 0 at (take at x) p (omega (arith, front_long)) (omega arith)

    renamed-written : overwrite (overwrite (overwrite out 0 (take at x)) at p) (at + length p) (drop stop x) ≡ overwrite out 0 (renamed x at stop p)
    unfolding renamed
    renamed-written =
        ap (λ o. overwrite o (at + length p) (drop stop x)) two
        ∙ overwrite_then out 0 (at + length p) (take at x ++ p) (drop stop x) (omega (arith, length-append (take at x) p, front_long)) (omega (arith, length-drop stop x))

    -- its head from k on
    head_taken : (k : ℕ) → k ≤ at → take (at + length p - k) (drop k (overwrite out 0 (renamed x at stop p))) ≡ drop k (take at x ++ p)
    unfolding renamed
    head_taken k h =
        let a = take at x ++ p in
        let l : length a ≡ at + length p = length-append (take at x) p ∙ ap (λ n. n + length p) front_long in
        ap (λ o. take (at + length p - k) (drop k o)) (overwrite_in out 0 (renamed x at stop p) (omega (arith, renamed-long)) ∙ append_assoc a (drop stop x) _)
        ∙ ap (take (at + length p - k)) (drop-append-le k a _ (omega (arith, l)))
        ∙ take_at (drop k a) _ (at + length p - k) (length-drop k a ∙ ap (λ n. n - k) l)

  -- what is told of it
  pub renamed-form : (kind n key : ℕ) → head_key (renamed x at stop p) ≡ (head_number (drop kind (take at x ++ p)) + compared_length kind) % 2 ^ 64
      → 0 < length p → n ≡ at + length p + (length x - stop) → key ≡ (head_number (drop kind (take at x ++ p)) + compared_length kind) % 2 ^ 64
      → Some (record { length = n; key = key }) ≡ form_of (renamed x at stop p)
  renamed-form kind n key h s e k = form_some (renamed x at stop p) n key (omega (arith, renamed-long)) (e ∙ sym renamed-long) (k ∙ sym h)

-- a form above 256 bytes, one that does not fit, one that does
module _ (c before : List ℕ) where
  pub limit-none : 256 < length c → Written (in_room 256 c) before before None
  limit-none h = written_none (in_room 256 c) before (ap (in_room (length before)) (room_no 256 c h) ∙ room_nil (length before))

  pub limit-short : length c ≤ 256 → length before < length c → Written (in_room 256 c) before before None
  limit-short h l = written_none (in_room 256 c) before (ap (in_room (length before)) (room_yes 256 c h) ∙ room_no (length before) c l)

  pub limit_all : (r : Option Form) (after : List ℕ) → length c ≤ 256 → length c ≤ length before → r ≡ form_of c → after ≡ overwrite before 0 c → Written (in_room 256 c) before after r
  limit_all r after h l f t = subst (λ z. Written z before after r) (sym (room_yes 256 c h)) (written_all c before after r l f t)

-- written in three parts, and its head read again
module _ (x : List ℕ) (kind at stop : ℕ) (p : List ℕ) (u : Renameable x (card kind at stop) p)
    (out o₁ o₂ o₃ : List ℕ) (short : at + length p + (length x - stop) ≤ 256) (fits : at + length p + (length x - stop) ≤ length out)
    (w₁ : o₁ ≡ overwrite out 0 (take at x)) (w₂ : o₂ ≡ overwrite o₁ at p) (w₃ : o₃ ≡ overwrite o₂ (at + length p) (take (length x - stop) (drop stop x))) where
  rest_whole : take (length x - stop) (drop stop x) ≡ drop stop x
  rest_whole = take_all (length x - stop) (drop stop x) (omega (arith, length-drop stop x))

  three : o₃ ≡ overwrite out 0 (renamed x at stop p)
  three =
      w₃ ∙ ap₂ (λ o r. overwrite o (at + length p) r) (w₂ ∙ ap (λ o. overwrite o at p) w₁) rest_whole
      ∙ renamed-written x at stop p u.low u.high out fits

  head_here : take (at + length p - kind) (drop kind o₃) ≡ drop kind (take at x ++ p)
  head_here = ap (λ o. take (at + length p - kind) (drop kind o)) three ∙ head_taken x at stop p u.low u.high out fits kind u.first

  pub renamed-made : (key : ℕ) → key ≡ (head_number (take (at + length p - kind) (drop kind o₃)) + compared_length kind) % 2 ^ 64
      → Written (in_room 256 (renamed x at stop p)) out o₃ (Some (record { length = at + length p + (length x - stop); key = key }))
  renamed-made key k =
      let l = renamed-long x at stop p u.low u.high in
      limit_all (renamed x at stop p) out (Some (record { length = at + length p + (length x - stop); key = key })) o₃ (omega (arith, l)) (omega (arith, l))
      (renamed-form x at stop p u.low u.high kind _ key u.key u.some refl (k ∙ ap (λ h. (head_number h + compared_length kind) % 2 ^ 64) head_here))
      three
