-- The pick from a bundle that was checked, and the entry at an index. Assumes nothing.
use Prim.Native.Nat.{ℕ, ◌+◌, ◌<◌, ◌≤◌}
use native.Mathlib.Omega.{arith}
use mathlib.Core.Path.{◌≡◌, refl, sym, ap, ◌∙◌, subst}
use mathlib.Core.Bool.{Bool, true, false, not}
use mathlib.Core.List.{List}
use Rattle.std.specs.Prelude.{Some, None, Result, Ok, Err, IfOk, cond}
use Rattle.std.specs.List.{position, position_or_len}
use Rattle.std.specs.Option.{ok_or}
use Rattle.std.proofs.lemmas.List.Quantifiers.{position-Some}
use Rattle.std.proofs.lemmas.List.Sums.{fails_before_first}
use Rattle.wire.specs.declared.Reason.TheVariants as reasons
use lib.Dec.{ltb}
use lib.ListN.{length, take}
use borrow.Author.Tests.{ltb-false}
use Rattle.wire.specs.Bytes.{empty}
use Rattle.wire.specs.Stop.{Stop, go, stop_if, unrefused}
use Rattle.wire.specs.Refusals.{number_of, stop_by}
use Rattle.wire.specs.declared.Refusal.{Refusal}
use Rattle.wire.proofs.Bools.{by_bool}
use Rattle.entry_id.specs.Canonical.{compatible_text}
use Rattle.entry_id.specs.IdRules.{IdRules}
use Rattle.entry_id.specs.Rules.{rules_of}
use Rattle.entry_id.specs.declared.Reading.{Reading}
use Rattle.bundle.specs.Table.{count, row_start, row_at, row}
use Rattle.bundle.specs.Check.{bad_id, bundle_stop}
use Rattle.bundle.specs.Pick.{compatible_at, pick}
use Rattle.bundle.specs.Accepted.{Accepted}
use Rattle.bundle.specs.Theorems.{refusal, Asked}
use Rattle.bundle.specs.EntryAt.{entry_stop, entry_at, unlocated}
use Rattle.bundle.specs.Records.{record_at}
use Rattle.bundle.specs.Results.{picked_of, located_of}
use Rattle.bundle.specs.declared.EntryRecord.{EntryRecord}
use Rattle.bundle.specs.declared.Picked.{Picked}
use Rattle.entry_id.proofs.RuleLaws.{rules_lawful}
use Rattle.bundle.proofs.AcceptLaws.{accepted}
use Rattle.bundle.proofs.EntryAtLaws.{length-id, entry_exact}
use Rattle.bundle.proofs.PickLaws.{pick-refused, pick-query, pick-none, pick-found}
use Rattle.bundle_reader.specs.Examined.{filled, id_at, form, held_row, row_held, forms_of}
use Rattle.bundle_reader.specs.Slots.{choice, image_of}
use Rattle.bundle_reader.proofs.RefusalLaws.{number_suc, refuses, refused-zero}
use Rattle.bundle_reader.proofs.FilledLaws.{length-filled, front-length, front_at}
use Rattle.bundle_reader.proofs.IdLaws.{compatible_by}
use Rattle.bundle_reader.proofs.RowLaws.{rows_room, rows-length, rows_at}
use Rattle.bundle_reader.proofs.CheckLaws.{forms_all}

-- ---- the choice of an entry

module _ (ids : List (List ℕ)) (name : List ℕ) where
  pub choice-query : empty name ≡ true → choice ids name ≡ Err (record { reason = reasons.Query; place = 0 })
  unfolding choice
  choice-query q = rw q

  abbrev fitting : List ℕ → Bool
  fitting id = compatible_text id name

  module _ (some : empty name ≡ false) where
    pub choice-of : choice ids name ≡ ok_or (position fitting ids) (record { reason = reasons.None; place = 0 })
    unfolding choice
    choice-of = rw some

    -- it is compatible, or none is
    pub choice-cases : {C : Type 0}
        → ((i : ℕ) → i < length ids → choice ids name ≡ Ok i → fitting (id_at ids i) ≡ true → C)
        → (choice ids name ≡ Err (record { reason = reasons.None; place = 0 }) → ((k : ℕ) → k < length ids → fitting (id_at ids k) ≡ false) → C) → C
    choice-cases found none = by_bool (ltb (position_or_len fitting ids) (length ids))
        (λ t.
        let i = position_or_len fitting ids in
        let e : position fitting ids ≡ Some i = ap (λ b. cond b (Some i) None) t in
        let p = position-Some fitting ids i _ e in
        found i p.0 (choice-of ∙ ap (λ o. ok_or o (record { reason = reasons.None; place = 0 })) e) p.1)
        (λ f.
        let i = position_or_len fitting ids in
        let e : position fitting ids ≡ None = ap (λ b. cond b (Some i) None) f in
        none (choice-of ∙ ap (λ o. ok_or o (record { reason = reasons.None; place = 0 })) e) (λ k h. fails_before_first fitting ids k _ (omega (arith, ltb-false _ _ f))))

  pub choice_lt : (i : ℕ) → Ok i ≡ choice ids name → i < length ids
  choice_lt i e =
      by_bool (empty name)
      (λ q. let z : Ok i ≡ Err (record { reason = reasons.Query; place = 0 }) = e ∙ choice-query q in absurd cc)
      (λ some.
      choice-cases some
      (λ j h w t. let z : Ok i ≡ Ok j = e ∙ w in let y : i ≡ j = cc in omega arith)
      (λ w n. let z : Ok i ≡ Err (record { reason = reasons.None; place = 0 }) = e ∙ w in absurd cc))

-- of few entries the image chosen has a low index
pub picked_lt : (rows : List EntryRecord) (ids : List (List ℕ)) (name : List ℕ) (n : ℕ) → length ids ≤ n → IfOk (image_of rows (choice ids name)) (λ image. image.index < n)
picked_lt rows ids name n few =
    let Below : Result ℕ Refusal → Type 0 = λ r. IfOk (image_of rows r) (λ image. image.index < n) in
    by_bool (empty name)
    (λ q. subst Below (sym (choice-query ids name q)) tt)
    (λ some. choice-cases ids name some (λ i h w t. subst Below (sym w) (omega arith)) (λ w n. subst Below (sym w) tt))

-- ---- the pick

-- what refuses a bundle refuses the pick
pub picked-stop : (R : IdRules) (s device : List ℕ) (r : Refusal) → stop_by r ≡ bundle_stop R s → refusal (number_of r.reason) r.place ≡ pick R s device
picked-stop R s device r e =
    let (k, q) = number_suc r.reason in
    ap (λ (t : Stop). refusal t.number t.place) e ∙ sym (pick-refused R s device k (ap (λ t. t.number) (sym e) ∙ q))

-- an accepted bundle, with its rows and its canonical IDs in the first places
module _ (reading : Reading) (s : List ℕ) (e : go ≡ bundle_stop (rules_of reading) s) (n : ℕ) (size : n ≡ count s)
    (rows₀ rows : List EntryRecord) (ids₀ ids : List (List ℕ)) (room : (count s ≤ length rows₀) × (count s ≤ length ids₀))
    (rows_held : rows ≡ filled rows₀ (count s) (row_held s)) (made : ids ≡ filled ids₀ (forms_of (rules_of reading) s) (form (rules_of reading) (row s)))
  where
    abbrev R : IdRules
    R = rules_of reading

    sound : Accepted R s
    sound = accepted R s (ap (λ t. t.number) (sym e))

    formed : ids ≡ filled ids₀ n (form R (row s))
    formed = made ∙ ap (λ m. filled ids₀ m (form R (row s))) (forms_all R s (ap (λ t. t.number) (sym e)) ∙ sym size)

    pub ids_room : n ≤ length ids
    ids_room = omega (arith, size, room.1, ap length formed, length-filled ids₀ n (form R (row s)))

    pub ids-length : length (take n ids) ≡ n
    ids-length = front-length ids₀ n (form R (row s)) ids formed (omega (arith, size, room.1))

    id_is : (k : ℕ) → k < n → id_at (take n ids) k ≡ R.canon (row s k).id
    unfolding form
    id_is k h = front_at ids₀ n (form R (row s)) ids formed (omega (arith, size, room.1)) _ k h

    pub row_is : (k : ℕ) → k < n → record_at (take n rows) k ≡ row_held s k
    row_is k h = rows_at s n rows₀ rows size rows_held room.0 k h

    fit : (device : List ℕ) → empty (R.canon device) ≡ false → (k : ℕ) → k < n → compatible_text (id_at (take n ids) k) (R.canon device) ≡ compatible_at R s device k
    unfolding compatible_at bad_id
    fit device some k h = ap (λ z. compatible_text z (R.canon device)) (id_is k h) ∙ compatible_by reading _ _ (sound.sense.meant.named k (omega (arith, size))) some

    -- the image of the entry chosen is that of the pick
    pub picked_is : (device : List ℕ) → picked_of (image_of (take n rows) (choice (take n ids) (R.canon device))) ≡ pick R s device
    unfolding held_row row row_at
    picked_is device =
        let shown : Result ℕ Refusal → Picked = λ r. picked_of (image_of (take n rows) r) in
        by_bool (empty (R.canon device))
        (λ q. ap shown (choice-query (take n ids) (R.canon device) q) ∙ sym (pick-query R s device sound q))
        (λ some.
        let asked : Asked R s device = record { bundle = sound; name = some } in
        choice-cases (take n ids) (R.canon device) some
        (λ i h w t.
        let l : i < n = omega (arith, ids-length) in
        ap shown w
        ∙ ap (λ (r : EntryRecord). record { number = 0; place = 0; index = i; position = r.image_start; size = r.image_len }) (row_is i l)
        ∙ sym (pick-found R (rules_lawful reading) s device asked i (omega (arith, size)) (sym (fit device some i l) ∙ t)))
        (λ w none.
        ap shown w ∙ sym (pick-none R s device asked (λ k h. sym (fit device some k (omega (arith, size))) ∙ none k (omega (arith, size, ids-length))))))

-- what a check leaves for a pick: the rows and the canonical IDs of the n entries lie in the first places
pub record Kept (reading : Reading) (s : List ℕ) (n : ℕ) (rows : List EntryRecord) (ids : List (List ℕ)) : Type 0 where
  pub rows_room : n ≤ length rows
  pub rows_are : n ≡ length (take n rows)
  pub ids_room : n ≤ length ids
  pub ids_are : n ≡ length (take n ids)
  pub picked : (device : List ℕ) → picked_of (image_of (take n rows) (choice (take n ids) ((rules_of reading).canon device))) ≡ pick (rules_of reading) s device

pub kept : (reading : Reading) (s : List ℕ) → go ≡ bundle_stop (rules_of reading) s → (n : ℕ) → n ≡ count s → (rows₀ rows : List EntryRecord) (ids₀ ids : List (List ℕ))
    → (count s ≤ length rows₀) × (count s ≤ length ids₀) → rows ≡ filled rows₀ (count s) (row_held s) → ids ≡ filled ids₀ (forms_of (rules_of reading) s) (form (rules_of reading) (row s))
    → Kept reading s n rows ids
kept reading s e n size rows₀ rows ids₀ ids room held made = record {
  rows_room = rows_room s n rows₀ rows size held room.0;
  rows_are = sym (rows-length s n rows₀ rows size held room.0);
  ids_room = ids_room reading s e n size rows₀ rows ids₀ ids room held made;
  ids_are = sym (ids-length reading s e n size rows₀ rows ids₀ ids room held made);
  picked = picked_is reading s e n size rows₀ rows ids₀ ids room held made;
}

-- ---- the entry at an index

pub located-stop : (R : IdRules) (s : List ℕ) (i : ℕ) (r : Refusal) → stop_by r ≡ bundle_stop R s → unlocated (number_of r.reason) r.place ≡ entry_at R s i
unfolding entry_at entry_stop
located-stop R s i r e =
    let z : (v : ℕ) → unrefused (stop_by r) v ≡ 0 = λ v. refused-zero r (stop_by r) v refl in
    rw (sym (refuses r (bundle_stop R s) (stop_if 10 (not (ltb i (count s)))) e)) (rw (z (row s i).offset, z (row s i).size, z (row_start s i + 24), z (length (row s i).id)))

module _ (R : IdRules) (s : List ℕ) (e : go ≡ bundle_stop R s) (i : ℕ) where
  pub located-none : count s ≤ i → unlocated 10 0 ≡ entry_at R s i
  located-none h = sym ((entry_exact R s i).none.1 (accepted R s (ap (λ t. t.number) (sym e)), h))

  pub located-row : i < count s → (r : EntryRecord) → r ≡ row_held s i → located_of (Ok r) ≡ entry_at R s i
  unfolding held_row row row_at
  located-row h r w =
      let a = accepted R s (ap (λ t. t.number) (sym e)) in
      rw (w, (entry_exact R s i).found.1 (a, h), length-id s (row_start s i) (a.frame.rows i h))
