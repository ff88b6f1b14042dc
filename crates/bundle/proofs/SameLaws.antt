-- The check and the pick of an accepted bundle depend on the set of its entries alone. Assumes nothing.
use Prim.Native.Nat.{ℕ, zero, suc, ◌<◌}
use native.Mathlib.Omega.{arith}
use mathlib.Core.Path.{◌≡◌, refl, sym, ap, ◌∙◌}
use mathlib.Core.Bool.{true}
use mathlib.Core.List.{List, [], Memᴰ}
use borrow.Author.Tests.{ltb-true}
use Rattle.wire.specs.First.{first, any_below}
use Rattle.wire.proofs.Bools.{by_bool, clash}
use Rattle.wire.proofs.FirstLaws.{first_at, any_some}
use Rattle.wire.proofs.ListLaws.{at_member}
use Rattle.entry_id.specs.IdRules.{IdRules, Lawful}
use Rattle.bundle.specs.Table.{count, row}
use Rattle.bundle.specs.Entry.{Entry, no_entry, image_of, entry_of, entries}
use Rattle.bundle.specs.Pick.{compatible_at, chosen, pick_stop, picked_image}
use Rattle.bundle.specs.Accepted.{Accepted}
use Rattle.bundle.proofs.EntryLaws.{entries-length, entries_at, entry_of_lem}
use Rattle.bundle.proofs.AcceptLaws.{accepted-go}
use Rattle.bundle.proofs.PickLaws.{refused_by_lem, picked-asked, pick-image, chosen_lt, chosen-compatible, compatible-one}

module _ (R : IdRules) where
  abbrev pub entry : List ℕ → ℕ → Entry
  entry s i = entry_of R s (row s i)

  -- each entry of a is one of b
  abbrev pub Holds : List ℕ → List ℕ → Type 0
  Holds a b = (e : Entry) → Memᴰ e (entries R a) → Memᴰ e (entries R b)

  pub holds_at : (a b : List ℕ) → Holds a b → (i : ℕ) → i < count a → (j : ℕ) × (j < count b) × (entry a i ≡ entry b j)
  holds_at a b h i l =
      entry_of_lem R b (count b) (row b) (entry a i)
      (h (entry a i) (rw (entries_at R a (count a) (row a) i l) at (at_member (entries R a) no_entry i (omega (arith, entries-length R a (count a) (row a))))))

  pub at_holds : (a b : List ℕ) → ((i : ℕ) → i < count a → (j : ℕ) × (j < count b) × (entry a i ≡ entry b j)) → Holds a b
  at_holds a b h e m =
      let p = entry_of_lem R a (count a) (row a) e m in
      let k = h p.0 p.1 in
      rw (p.2 ∙ k.2 ∙ sym (entries_at R b (count b) (row b) k.0 k.1)) (at_member (entries R b) no_entry k.0 (omega (arith, entries-length R b (count b) (row b), k.1)))

  compatible-entry : (s device : List ℕ) (i : ℕ) → compatible_at R s device i ≡ R.compatible (entry s i).id (R.canon device)
  unfolding compatible_at entry_of
  compatible-entry s device i = refl

  -- equal entries are compatible with the same device names
  compatible-same : (a b device : List ℕ) (i j : ℕ) → entry a i ≡ entry b j → compatible_at R a device i ≡ compatible_at R b device j
  compatible-same a b device i j e = compatible-entry a device i ∙ ap (λ z. R.compatible z.id (R.canon device)) e ∙ sym (compatible-entry b device j)

  any-holds : (a b device : List ℕ) → Holds a b → any_below (count a) (compatible_at R a device) ≡ true → any_below (count b) (compatible_at R b device) ≡ true
  unfolding any_below
  any-holds a b device h t =
      let i = first (count a) (compatible_at R a device) in
      let l : i < count a = ltb-true i (count a) t in
      let k = holds_at a b h i l in
      any_some (count b) (compatible_at R b device) k.0 k.1 (sym (compatible-same a b device i k.0 k.2) ∙ first_at (count a) (compatible_at R a device) l)

  any_same : (a b device : List ℕ) → Holds a b → Holds b a → any_below (count a) (compatible_at R a device) ≡ any_below (count b) (compatible_at R b device)
  any_same a b device h g =
      by_bool (any_below (count a) (compatible_at R a device))
      (λ t. t ∙ sym (any-holds a b device h t))
      (λ f. by_bool (any_below (count b) (compatible_at R b device)) (λ t. clash _ (any-holds b a device g t) f) (λ e. f ∙ sym e))

  image-picked : (s device : List ℕ) → (pick_stop R s device).number ≡ 0 → picked_image R s device ≡ (entry s (chosen R s device)).image
  unfolding picked_image entry_of image_of
  image-picked s device e = rw (pick-image R s device e)

  image-refused : (s device : List ℕ) (k : ℕ) → (pick_stop R s device).number ≡ suc k → picked_image R s device ≡ []
  unfolding picked_image
  image-refused s device k e = rw (refused_by_lem R s device (pick_stop R s device) k refl e)

module _ (R : IdRules) (L : Lawful R) (a b device : List ℕ) (acc : Accepted R a) (bcc : Accepted R b) (h : Holds R a b) (g : Holds R b a) where
  pub pick_stop-entries : pick_stop R a device ≡ pick_stop R b device
  unfolding pick_stop
  pick_stop-entries = rw (accepted-go R a acc, accepted-go R b bcc, any_same R a b device h g)

  number_b : (n : ℕ) → (pick_stop R a device).number ≡ n → (pick_stop R b device).number ≡ n
  number_b n e = ap (λ t. t.number) (sym pick_stop-entries) ∙ e

  -- the chosen entries are one
  chosen-entries : (pick_stop R a device).number ≡ 0 → entry R a (chosen R a device) ≡ entry R b (chosen R b device)
  chosen-entries e =
      let f : (pick_stop R b device).number ≡ 0 = number_b 0 e in
      let k = holds_at R a b h (chosen R a device) (chosen_lt R a device e) in
      let q : compatible_at R b device k.0 ≡ true = sym (compatible-same R a b device (chosen R a device) k.0 k.2) ∙ chosen-compatible R a device e in
      k.2 ∙ ap (entry R b) (compatible-one R L b device (picked-asked R b device f) k.0 (chosen R b device) k.1 (chosen_lt R b device f) q (chosen-compatible R b device f))

  pub picked_image-entries : picked_image R a device ≡ picked_image R b device
  picked_image-entries = cases (pick_stop R a device).number refl
    where
      cases : (n : ℕ) → (pick_stop R a device).number ≡ n → picked_image R a device ≡ picked_image R b device
      cases zero e = image-picked R a device e ∙ ap (λ z. z.image) (chosen-entries e) ∙ sym (image-picked R b device (number_b 0 e))
      cases (suc k) e = image-refused R a device k e ∙ sym (image-refused R b device k (number_b (suc k) e))
