-- Sorting in place: one element goes up among those behind it, which are in order. Assumes nothing.
use Prim.Native.Nat.{ℕ, suc, ◌+◌, ◌-◌, ◌<◌, ◌≤◌}
use native.Mathlib.Omega.{arith}
use mathlib.Core.Path.{◌≡◌, refl, sym, ap, ap₂, ◌∙◌}
use mathlib.Core.Bool.{true, false}
use mathlib.Core.List.{List, [], ◌∷◌, ◌++◌, append_assoc, append-nil}
use lib.ListN.{length, get_or, take, drop, set, length-append, length-drop, take-append-drop, drop_of_length-le}
use lib.Seq.{drop-cons, set_at, take_at, drop_at, take_all, take-take, get_or-drop, get_or-take, length-take-le}
use Rattle.std.specs.List.{swap}
use Rattle.std.proofs.lemmas.List.Edits.{swap_is}
use borrow.Rule.Slice.PartMut.{put_mid}
use Rattle.wire.specs.Bytes.{before}
use Rattle.wire.specs.Order.{insert_by, sort_by}
use Rattle.wire.proofs.SortLaws.{sort_drop}

module _ {A : Type 0} (key : A → List ℕ) where
  -- e went up past i - 1 of es: what is left to do from there on puts it in its place
  pub record Sifted (e : A) (es now : List A) (i : ℕ) : Type 0 where
    pub here : drop (i - 1) now ≡ e ∷ drop (i - 1) es
    pub left : take (i - 1) now ++ insert_by key e (drop (i - 1) es) ≡ insert_by key e es

  pub sifted_none : (e : A) (es now : List A) → now ≡ e ∷ es → Sifted e es now 1
  sifted_none e es now q = record { here = q; left = refl }

  module _ (e d : A) (es now : List A) (i : ℕ) (low : 1 ≤ i) (s : Sifted e es now i) where
    abbrev j : ℕ
    j = i - 1

    whole : take j now ++ (e ∷ drop j es) ≡ now
    whole = ap (λ r. take j now ++ r) (sym s.here) ∙ take-append-drop j now

    pub sifted_end : length now ≤ i → now ≡ insert_by key e es
    unfolding insert_by
    sifted_end h =
        let n : drop j es ≡ [] = none (drop j es) (omega (arith, ap length s.here, length-drop j now)) in
        sym whole ∙ ap (λ r. take j now ++ (e ∷ r)) n ∙ sym (ap (λ r. take j now ++ insert_by key e r) n) ∙ s.left
      where
        none : (l : List A) → length l ≤ 0 → l ≡ []
        none [] h = refl
        none (x ∷ l) h = absurd (omega arith)

    module _ (h : i < length now) where
      abbrev f : A
      f = get_or es j d

      behind : drop j es ≡ f ∷ drop (suc j) es
      behind = drop-cons es j d (omega (arith, ap length s.here, length-drop j now, length-drop j es))

      at : length (take j now) ≡ j
      at = length-take-le j now (omega arith)

      first : get_or now j d ≡ e
      first = ap (λ k. get_or now k d) (let z : j ≡ j + 0 = omega arith in z) ∙ sym (get_or-drop j now 0 d) ∙ ap (λ l. get_or l 0 d) s.here

      second : get_or now i d ≡ f
      second = ap (λ k. get_or now k d) (let z : i ≡ j + 1 = omega arith in z) ∙ sym (get_or-drop j now 1 d) ∙ ap (λ l. get_or l 1 d) (s.here ∙ ap (λ r. e ∷ r) behind)

      pub sifted_stop : before (key (get_or now j d)) (key (get_or now i d)) ≡ true → now ≡ insert_by key e es
      unfolding insert_by
      sifted_stop t =
          let u : before (key e) (key f) ≡ true = rw (first, second) at t in
          let p : insert_by key e (f ∷ drop (suc j) es) ≡ e ∷ f ∷ drop (suc j) es = rw u in
          sym whole ∙ ap (λ r. take j now ++ (e ∷ r)) behind ∙ sym (ap (λ r. take j now ++ insert_by key e r) behind ∙ ap (λ r. take j now ++ r) p) ∙ s.left

      abbrev r : List A
      r = drop (suc j) es

      swapped : swap now j i ≡ (take j now ++ (f ∷ [])) ++ (e ∷ r)
      swapped =
          let n : take j now ++ (e ∷ (f ∷ r)) ≡ now = ap (λ l. take j now ++ (e ∷ l)) (sym behind) ∙ whole in
          let q : length (take j now ++ (f ∷ [])) ≡ i = simp length-append (omega (arith, at)) in
          sym (swap_is now j i d (omega arith) h)
          ∙ ap₂ (λ x y. set (set now j x) i y) second first
          ∙ ap (λ l. set (set l j f) i e) (sym n)
          ∙ ap (λ l. set l i e) (set_at (take j now) e (f ∷ r) f j at ∙ (let a : take j now ++ (f ∷ (f ∷ r)) ≡ (take j now ++ (f ∷ [])) ++ (f ∷ r) = simp append_assoc in a))
          ∙ set_at (take j now ++ (f ∷ [])) f r e i q

      pub sifted_next : before (key (get_or now j d)) (key (get_or now i d)) ≡ false → Sifted e es (swap now j i) (i + 1)
      unfolding insert_by
      sifted_next t =
          let u : before (key e) (key f) ≡ false = rw (first, second) at t in
          let q : length (take j now ++ (f ∷ [])) ≡ i + 1 - 1 = simp length-append (omega (arith, at)) in
          let z : suc j ≡ i + 1 - 1 = omega arith in
          let p : insert_by key e (f ∷ r) ≡ f ∷ insert_by key e r = rw u in
          record {
            here = ap (drop (i + 1 - 1)) swapped ∙ drop_at (take j now ++ (f ∷ [])) (e ∷ r) (i + 1 - 1) q ∙ ap (λ k. e ∷ drop k es) z;
            left =
                ap₂ (λ a k. a ++ insert_by key e (drop k es)) (ap (take (i + 1 - 1)) swapped ∙ take_at (take j now ++ (f ∷ [])) (e ∷ r) (i + 1 - 1) q) (sym z)
                ∙ append_assoc (take j now) (f ∷ []) (insert_by key e r)
                ∙ ap (λ l. take j now ++ l) (sym p ∙ ap (insert_by key e) (sym behind))
                ∙ s.left;
          }

  -- ---- the sorted part grows to the front

  pub record Sorted (l now : List A) (i : ℕ) : Type 0 where
    pub front : take i now ≡ take i l
    pub behind : drop i now ≡ sort_by key (drop i l)

  pub sorted_none : (l : List A) → Sorted l l (length l)
  unfolding sort_by
  sorted_none l = record {
    front = refl;
    behind = let n : drop (length l) l ≡ [] = drop_of_length-le l {i = length l} (omega arith) in rw n;
  }

  -- the part from i on, one longer, once its first went up
  pub sorted_next : (d : A) (l now part : List A) (i : ℕ) → 1 ≤ i → i ≤ length l → length now ≡ length l → length part ≡ length now - (i - 1) → Sorted l now i
      → ((e : A) (es : List A) → take (length now - (i - 1)) (drop (i - 1) now) ≡ e ∷ es → part ≡ insert_by key e es)
      → Sorted l (put_mid (i - 1) (length now - (i - 1)) now part) (i - 1)
  sorted_next d l now part i low high same long s f =
      let j : ℕ = i - 1 in
      let z : suc j ≡ i = omega arith in
      let rest : drop (length now - j) (drop j now) ≡ [] = drop_of_length-le (drop j now) {i = length now - j} (omega (arith, length-drop j now)) in
      let whole : put_mid j (length now - j) now part ≡ take j now ++ part = ap (λ r. take j now ++ (part ++ r)) rest ∙ ap (λ r. take j now ++ r) (append-nil part) in
      let at : length (take j now) ≡ j = length-take-le j now (omega arith) in
      let same_at : get_or now j d ≡ get_or l j d = sym (get_or-take i now j d (omega arith)) ∙ ap (λ k. get_or k j d) s.front ∙ get_or-take i l j d (omega arith) in
      let head : drop j now ≡ get_or now j d ∷ drop i now = drop-cons now j d (omega arith) ∙ ap (λ k. get_or now j d ∷ drop k now) z in
      record {
        front =
            ap (take j) whole ∙ take_at (take j now) part j at
            ∙ sym (take-take j i now (omega arith)) ∙ ap (take j) s.front ∙ take-take j i l (omega arith);
        behind =
            ap (drop j) whole ∙ drop_at (take j now) part j at
            ∙ f (get_or now j d) (drop i now) (take_all (length now - j) (drop j now) (omega (arith, length-drop j now)) ∙ head)
            ∙ ap₂ (insert_by key) same_at (s.behind ∙ ap (λ k. sort_by key (drop k l)) (sym z))
            ∙ sym (sort_drop key d l j (omega arith));
      }
