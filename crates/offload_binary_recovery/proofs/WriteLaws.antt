-- Turns of the loops that write spans and copies. Assumes nothing.
use Prim.Native.Nat.{ℕ, zero, suc, ◌+◌, ◌<◌, ◌≤◌}
use native.Mathlib.Numerals.{add-one}
use native.Mathlib.Omega.{arith}
use mathlib.Core.Path.{◌≡◌, refl, sym, ap, ap₂, ◌∙◌, subst}
use mathlib.Core.List.{List, [], ◌∷◌, ◌++◌, map, append_assoc, append-nil}
use lib.ListN.{length, get_or, take, drop, length-append, take-append-drop, drop_of_length-le}
use lib.Seq.{drop-cons, take-suc, take_all}
use Rattle.std.proofs.lemmas.List.{map-append}
use Rattle.wire.specs.Bytes.{overwrite}
use Rattle.wire.specs.Lists.{joined}
use Rattle.wire.specs.Rows.{Added}
use Rattle.wire.proofs.ListLaws.{joined-append}
use Rattle.wire.proofs.OverwriteLaws.{overwrite_then, overwrite_nil}
use Rattle.wire.proofs.RowLaws.{added_none, added_more}
use Rattle.offload_binary.specs.Binary.{bytes_at, no_part}
use Rattle.offload_binary.specs.Reader.{end_to_end}
use Rattle.offload_binary.specs.Recovery.{takes, gap, skips, taken, skipped, copied, span_row}
use Rattle.offload_binary.specs.RecoveryTheorems.{TakenFrom}
use Rattle.offload_binary.specs.declared.Part.{Part}
use Rattle.offload_binary.proofs.RecoveryLaws.{lies, takes_from, skips_nil, skips_cons}
use Rattle.offload_binary.proofs.RecoverLaws.{length_part}
use Rattle.offload_binary_recovery.specs.Code.{Skipping}

-- the binaries found, part by part
module _ (s : List ℕ) (parts : List Part) (k : parts ≡ taken s) where
  module _ (i : ℕ) (h : i < length parts) where
    left_is : drop i (taken s) ≡ get_or parts i no_part ∷ drop (i + 1) (taken s)
    left_is = rw (← k, add-one i) (drop-cons parts i no_part h)

    taken_is : take (i + 1) (taken s) ≡ take i (taken s) ++ (get_or parts i no_part ∷ [])
    taken_is = rw (← k, add-one i) (take-suc parts i no_part h)

  -- ---- skipped spans

  pub skip_first : (room : ℕ) (out : List (List ℕ)) → Skipping s room out 0 0 0 out
  unfolding taken skipped
  skip_first room out = record { inside = omega arith; left = takes_from 65 s 0; done = []; rest = refl; added = added_none room out 0 (omega arith) }

  module _ (room : ℕ) (out : List (List ℕ)) (r : length out ≤ room) (i cursor m : ℕ) (after : List (List ℕ)) (g : Skipping s room out i cursor m after) where
    module _ (h : i < length parts) where
      here : TakenFrom s cursor (get_or parts i no_part ∷ drop (i + 1) (taken s))
      here = subst (λ x. TakenFrom s cursor x) (left_is i h) g.left

      pub skip_inside : (get_or parts i no_part).start + (get_or parts i no_part).len ≤ length s
      skip_inside = (lies s (get_or parts i no_part) here.0.is_binary).inside

      pub skip_next : (m₂ : ℕ) (after₂ : List (List ℕ)) → Added room after m (map span_row (gap cursor (get_or parts i no_part).start)) m₂ after₂
          → Skipping s room out (i + 1) ((get_or parts i no_part).start + (get_or parts i no_part).len) m₂ after₂
      skip_next m₂ after₂ a =
          let c : Part = get_or parts i no_part in
          let left : List Part = drop (i + 1) (taken s) in
          record {
            inside = skip_inside;
            left = here.1;
            done = g.done ++ gap cursor c.start;
            rest = g.rest ∙ ap (λ x. g.done ++ skips (length s) cursor x) (left_is i h) ∙ ap (g.done ++◌) (skips_cons (length s) cursor c left)
                ∙ sym (append_assoc g.done (gap cursor c.start) (skips (length s) (c.start + c.len) left));
            added = rw (map-append span_row g.done (gap cursor c.start)) (added_more room out 0 _ m after g.added _ m₂ after₂ r a);
          }

    pub skip_end : length parts ≤ i → (m₂ : ℕ) (after₂ : List (List ℕ)) → Added room after m (map span_row (gap cursor (length s))) m₂ after₂ → Added room out 0 (map span_row (skipped s)) m₂ after₂
    skip_end h m₂ after₂ a =
        let none : drop i (taken s) ≡ [] = drop_of_length-le (taken s) {i = i} (omega (arith, ap length k)) in
        let all : skipped s ≡ g.done ++ gap cursor (length s) = g.rest ∙ ap (λ x. g.done ++ skips (length s) cursor x) none ∙ ap (g.done ++◌) (skips_nil (length s) cursor) in
        rw (all, map-append span_row g.done (gap cursor (length s))) (added_more room out 0 _ m after g.added _ m₂ after₂ r a)

  -- ---- copies

  -- the first i binaries
  abbrev pub first : ℕ → List ℕ
  first i = end_to_end s (take i (taken s))

  first-cut : (i : ℕ) → copied s ≡ first i ++ end_to_end s (drop i (taken s))
  unfolding copied end_to_end
  first-cut i = ap (joined (bytes_at s)) (sym (take-append-drop i (taken s))) ∙ joined-append (bytes_at s) (take i (taken s)) (drop i (taken s))

  module _ (i : ℕ) (h : i < length parts) where
    inside : (get_or parts i no_part).start + (get_or parts i no_part).len ≤ length s
    unfolding taken
    inside = subst (λ c. c.start + c.len ≤ length s) (ap (λ x. get_or x i no_part) (sym k)) (all_inside (takes 65 s 0) 0 (takes_from 65 s 0) i (omega (arith, ap length k)))
      where
        all_inside : (cs : List Part) (cursor : ℕ) → TakenFrom s cursor cs → (i : ℕ) → i < length cs → (get_or cs i no_part).start + (get_or cs i no_part).len ≤ length s
        all_inside [] cursor t i h = absurd (omega arith)
        all_inside (c ∷ cs) cursor t zero h = (lies s c t.0.is_binary).inside
        all_inside (c ∷ cs) cursor t (suc i) h = all_inside cs (c.start + c.len) t.1 i (omega arith)

    first_more_lem : first (i + 1) ≡ first i ++ bytes_at s (get_or parts i no_part)
    unfolding end_to_end joined
    first_more_lem = ap (joined (bytes_at s)) (taken_is i h) ∙ joined-append (bytes_at s) (take i (taken s)) (get_or parts i no_part ∷ []) ∙ ap (first i ++◌) (append-nil (bytes_at s (get_or parts i no_part)))

    pub copy_size : (at : ℕ) → at ≡ length (first i) → at + (get_or parts i no_part).len ≡ length (first (i + 1))
    copy_size at e = omega (arith, ap length first_more_lem, length-append (first i) (bytes_at s (get_or parts i no_part)), length_part s (get_or parts i no_part) inside)

    pub copy_fits : (room : ℕ) → length (copied s) ≤ room → length (first (i + 1)) ≤ room
    copy_fits room l = omega (arith, ap length (first-cut (i + 1)), length-append (first (i + 1)) (end_to_end s (drop (i + 1) (taken s))))

    pub copy_next : (out₀ out out' : List ℕ) (at : ℕ) (b : List ℕ) → length (copied s) ≤ length out₀ → at ≡ length (first i) → out ≡ overwrite out₀ 0 (first i)
        → b ≡ bytes_at s (get_or parts i no_part) → out' ≡ overwrite out at b → out' ≡ overwrite out₀ 0 (first (i + 1))
    copy_next out₀ out out' at b l e f q w =
        let y : List ℕ = bytes_at s (get_or parts i no_part) in
        w ∙ ap₂ (λ u v. overwrite u at v) f q
        ∙ overwrite_then out₀ 0 at (first i) y (omega arith) (omega (arith, copy_fits (length out₀) l, copy_size at e, length_part s (get_or parts i no_part) inside))
        ∙ ap (overwrite out₀ 0) (sym first_more_lem)

  pub copy_all : (i : ℕ) (out₀ out : List ℕ) → length parts ≤ i → out ≡ overwrite out₀ 0 (first i) → out ≡ overwrite out₀ 0 (copied s)
  unfolding copied
  copy_all i out₀ out h e = e ∙ ap (λ t. overwrite out₀ 0 (end_to_end s t)) (take_all i (taken s) (omega (arith, ap length k)))

  pub copy_none : (out : List ℕ) → out ≡ overwrite out 0 (first 0)
  unfolding end_to_end joined
  copy_none out = sym (overwrite_nil out 0)

  pub copy_zero : 0 ≡ length (first 0)
  unfolding end_to_end joined
  copy_zero = refl
