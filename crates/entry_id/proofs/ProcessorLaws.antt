-- Where a processor starts and how far it runs. Assumes nothing.
use Prim.Native.Nat.{ℕ, zero, suc, ◌-◌}
use Prim.Native.Char.{code}
use mathlib.Core.Path.{◌≡◌, refl, sym, ap, ◌∙◌}
use mathlib.Core.Logic.{inl, inr}
use mathlib.Core.Bool.{true, not}
use mathlib.Core.List.{List, [], ◌∷◌, ◌++◌, append-nil, append_assoc}
use lib.ListN.{length, get_or, take, drop, take-append-drop}
use lib.Dec.{T, eqb}
use Rattle.wire.specs.Lists.{every}
use Rattle.wire.specs.Bytes.{bytes, same}
use Rattle.wire.proofs.Bools.{and_l, and_r, and_t, or_t, of_true}
use Rattle.wire.proofs.ByteLaws.{same_eq}
use Rattle.entry_id.specs.Text.{split_on, join_with, other_than, not_colon}
use Rattle.entry_id.specs.Meaning.{fields_of, names_processor, fifth_is_processor, meaning_of, meaning, name_byte, field_byte, processor_shaped}
use Rattle.entry_id.specs.Canonical.{head_of}
use Rattle.entry_id.specs.Theorems.{ProcessorRuns}
use Rattle.entry_id.proofs.TextLaws.{avoids, split_start, split_some, split_join_last, join_split}
use Rattle.entry_id.proofs.ReadBack.{no_dash, as_processor, join_not_colon, environment_plain}
use Rattle.entry_id.proofs.KindLaws.{head_start}

-- ---- how a processor begins

-- a text that begins like a processor: its first bytes are a field's, and what begins with them begins like a processor
pub record Named (p : List ℕ) : Type 0 where
  pub start : List ℕ
  pub rest : List ℕ
  pub is : p ≡ start ++ rest
  pub start_bytes : T (every field_byte start)
  pub named : (r : List ℕ) → names_processor (start ++ r) ≡ true

pub named-parts : (p : List ℕ) → T (names_processor p) → Named p
unfolding names_processor every field_byte name_byte same
named-parts p t = elim (or_t (same (take 3 p) (bytes "gfx")) (same (take 3 p) (bytes "sm_")) t) [
  | inl u ↦ record { start = bytes "gfx"; rest = drop 3 p; is = begun (bytes "gfx") u; start_bytes = tt; named = λ r. refl }
  | inr u ↦ record { start = bytes "sm_"; rest = drop 3 p; is = begun (bytes "sm_") u; start_bytes = tt; named = λ r. refl }
]
  where
    begun : (w : List ℕ) → T (same (take 3 p) w) → p ≡ w ++ drop 3 p
    begun w u = sym (take-append-drop 3 p) ∙ ap (λ z. z ++ drop 3 p) (same_eq (take 3 p) w u)

-- what goes on behind such a text
pub named_more : (p q : List ℕ) → names_processor p ≡ true → names_processor (p ++ q) ≡ true
named_more p q e =
    let n = named-parts p (of_true _ e) in
    ap (λ z. names_processor (z ++ q)) n.is ∙ ap names_processor (append_assoc n.start n.rest q) ∙ n.named (n.rest ++ q)

-- its first field
named-field : (p : List ℕ) → T (names_processor p) → names_processor (get_or (split_on (code "-") p) 0 []) ≡ true
named-field p t =
    let n = named-parts p t in
    let (q, qs, e) = split_some (code "-") n.rest in
    ap (λ z. names_processor (get_or (split_on (code "-") z) 0 [])) n.is
    ∙ ap (λ (l : List (List ℕ)). names_processor (get_or l 0 [])) (split_start (code "-") field_byte no_dash n.start n.rest q qs n.start_bytes e) ∙ n.named q

-- ---- a field is one

no_hyphen : (f : List ℕ) (i : ℕ) → T (every field_byte f) → T (not (eqb (get_or f i 0) (code "-")))
unfolding every other_than
no_hyphen [] i t = tt
no_hyphen (b ∷ f) zero t = avoids (code "-") field_byte no_dash b (and_l (field_byte b) (every field_byte f) t)
no_hyphen (b ∷ f) (suc i) t = no_hyphen f i (and_r (field_byte b) (every field_byte f) t)

pub field-shaped : (f : List ℕ) → T (every field_byte f) → T (processor_shaped f)
unfolding processor_shaped
field-shaped f t =
    let b = as_processor f t in
    let first = no_hyphen f 0 t in
    let last = no_hyphen f (length f - 1) t in
    search and_t depth 6

-- ---- how far it runs

-- fields of a head, the last of which may hold hyphens
module _ (fs : List (List ℕ)) (p r : List ℕ) (f : T (every (every field_byte) fs)) (c : T (every not_colon p)) (h : head_of r ≡ []) where
  fields_are : fields_of (join_with (code "-") (fs ++ p ∷ []) ++ r) ≡ fs ++ split_on (code "-") p
  unfolding fields_of head_of
  fields_are =
      let x = join_with (code "-") (fs ++ p ∷ []) in
      ap (split_on (code "-")) (head_start x (join_not_colon fs p f c) r ∙ ap (λ z. x ++ z) h ∙ append-nil x) ∙ split_join_last (code "-") field_byte no_dash fs p f

pub processor_runs : ProcessorRuns
unfolding meaning meaning_of fifth_is_processor
processor_runs = record {
  fifth = λ k a v s p r f c h t. rw (fields_are (k ∷ a ∷ v ∷ s ∷ []) p r f c h, named-field p t) (refl, join_split (code "-") p);
  sixth = λ k a v s e p r f c h n. rw (fields_are (k ∷ a ∷ v ∷ s ∷ e ∷ []) p r f c h, n) (refl, join_split (code "-") p);
  environment = environment_plain;
}
