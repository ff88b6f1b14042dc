-- Canonical forms that were made, and the tests on them. Assumes nothing.
use Prim.Native.Nat.{ℕ, ◌-◌, ◌<◌, ◌≤◌}
use native.Mathlib.Omega.{arith}
use mathlib.Core.Path.{◌≡◌, refl, sym, ap, ap₂, ◌∙◌}
use mathlib.Core.Bool.{Bool, true, false}
use mathlib.Core.List.{List, [], ◌++◌}
use lib.Dec.{eqb}
use lib.ListN.{length, get_or, take, drop, replicate}
use lib.Seq.{take_at}
use borrow.Author.Tests.{eq-eqb, eqb-false}
use Rattle.std.proofs.lemmas.List.{get_or_read_under, ext_get_or, length-replicate, get_or-replicate}
use Rattle.wire.specs.Bytes.{empty}
use Rattle.wire.specs.First.{first}
use Rattle.wire.proofs.Bools.{by_bool}
use Rattle.wire.proofs.ByteLaws.{length_some, empty_nil}
use Rattle.wire.proofs.FirstLaws.{first_le, first-before, first_at, first_is}
use Rattle.entry_id.proofs.KeyLaws.{key-same, key-mixed, key-compatible}
use Rattle.entry_id.proofs.RuleLaws.{form_whole, canon_of_general, same_rules, mixed_rules, compatible_rules}
use Rattle.entry_id.specs.Canonical.{head_key, same_text, mixed_text, compatible_text}
use Rattle.entry_id.specs.Rules.{id_rules, canon_of, rules_of, form_in}
use Rattle.entry_id.specs.declared.Reading.{Reading}
use Rattle.entry_id.specs.declared.Reading.TheVariants.{General}
use Rattle.std.specs.Prelude.{Option, Some, None}
use Rattle.canonical_form.specs.Made.{form_of}
use Rattle.canonical_form.proofs.MadeLaws.{form_parts, form_none}
use Rattle.canonical_form.specs.declared.Form.{Form}
use Rattle.bundle_reader.specs.Examined.{id_at, taken}
use Rattle.bundle_reader.specs.Slots.{near}

-- the general reading
pub general_is : rules_of General ≡ id_rules
unfolding rules_of canon_of id_rules
general_is = refl

-- an ID that is read
pub item_is : (ids : List (List ℕ)) (k : ℕ) (x : List ℕ) → k < length ids → x ≡ get_or ids k x → x ≡ id_at ids k
item_is ids k x h e = get_or_read_under ids k (length ids) x [] e h refl

-- none that was read
pub none_read : (ids : List (List ℕ)) (n : ℕ) → length ids ≡ n → ((i : ℕ) → i < n → id_at ids i ≡ []) → ids ≡ replicate n []
none_read ids n e h = ext_get_or [] _ _ (e ∙ sym (length-replicate n [])) (λ i l. h i (omega (arith, e)) ∙ sym (get_or-replicate n i [] [] (omega (arith, e))))

-- ---- a form that was made

-- in a room of 256 bytes
pub made_in : (reading : Reading) (x before after : List ℕ) (made : Option Form) → length before ≡ 256
    → (made ≡ form_of (form_in reading (length before) x)) × (after ≡ form_in reading (length before) x ++ drop (length (form_in reading (length before) x)) before)
    → (made ≡ form_of ((rules_of reading).canon x)) × (after ≡ (rules_of reading).canon x ++ drop (length ((rules_of reading).canon x)) before)
made_in reading x before after made room (e, f) =
    let whole = form_whole reading (length before) x (omega arith) in
    (e ∙ ap form_of whole, f ∙ ap (λ z. z ++ drop (length z) before) whole)

module _ (c before after : List ℕ) (e : after ≡ c ++ drop (length c) before) where
  -- there is none
  module _ (none : None ≡ form_of c) where
    pub made-none : empty c ≡ true
    unfolding empty
    made-none = ap empty (form_none c none)

    -- nothing was written
    pub made-kept : after ≡ before
    made-kept = e ∙ ap (λ z. z ++ drop (length z) before) (form_none c none)

  module _ (form : Form) (some : Some form ≡ form_of c) where
    told : (0 < length c) × (form.length ≡ length c) × (form.key ≡ head_key c)
    told = form_parts c form some

    pub made_some : empty c ≡ false
    made_some = length_some c (λ z. omega (arith, told.0))

    pub made_length : form.length ≡ length c
    made_length = told.1

    pub made_text : take form.length after ≡ c
    made_text = ap₂ take told.1 e ∙ take_at c _ _ refl

    pub made_key : form.key ≡ head_key (take form.length after)
    made_key = told.2 ∙ ap head_key (sym made_text)

-- ---- what a reading leaves

pub taken_new : (new old : List ℕ) → empty new ≡ false → taken new old ≡ new
unfolding taken
taken_new new old e = rw e

pub taken_old : (new old : List ℕ) → empty new ≡ true → taken new old ≡ old
unfolding taken
taken_old new old e = rw e

pub taken_first : (new old : List ℕ) → old ≡ [] → taken new old ≡ new
taken_first new old e = by_bool (empty new) (λ t. taken_old new old t ∙ e ∙ sym (empty_nil new t)) (λ f. taken_new new old f)

-- ---- canonical forms whose heads have different numbers

module _ (a b : List ℕ) (apart : head_key a ≡ head_key b → ⊥) where
  pub unrelated-same : same_text a b ≡ false
  unrelated-same = by_bool (same_text a b) (λ t. absurd (apart (key-same a b t))) (λ f. f)

  pub unrelated-mixed : mixed_text a b ≡ false
  unrelated-mixed = by_bool (mixed_text a b) (λ t. absurd (apart (key-mixed a b t))) (λ f. f)

  pub unrelated-compatible : compatible_text a b ≡ false
  unrelated-compatible = by_bool (compatible_text a b) (λ t. absurd (apart (key-compatible a b t))) (λ f. f)

pub near_le : (ids : List (List ℕ)) (i : ℕ) → near ids i ≤ i
unfolding near
near_le ids i = first_le i (λ j. eqb (head_key (id_at ids j)) (head_key (id_at ids i)))

-- none before the first with the number of ID i has it
pub near-apart : (ids : List (List ℕ)) (i k : ℕ) → k < near ids i → head_key (id_at ids k) ≡ head_key (id_at ids i) → ⊥
unfolding near
near-apart ids i k h e = eqb-false _ _ (first-before i (λ j. eqb (head_key (id_at ids j)) (head_key (id_at ids i))) k h) e

-- the ID before has the same number
pub near_same : (ids : List (List ℕ)) (i : ℕ) → 0 < i → head_key (id_at ids (i - 1)) ≡ head_key (id_at ids i) → near ids (i - 1) ≡ near ids i
unfolding near
near_same ids i h e =
    let m = i - 1 in
    let p : ℕ → Bool = λ j. eqb (head_key (id_at ids j)) (head_key (id_at ids i)) in
    let q : ℕ → Bool = λ j. eqb (head_key (id_at ids j)) (head_key (id_at ids m)) in
    let here : first m p ≡ first m q = ap (λ z. first m (λ j. eqb (head_key (id_at ids j)) z)) (sym e) in
    by_bool (eqb (first m q) m)
    (λ t. sym (first_is i p (first m q) (omega (arith, first_le m q)) (eq-eqb _ _ (at t)) (λ k l. first-before m p k (omega (arith, here)))))
    (λ f. sym (first_is i p (first m q) (omega (arith, first_le m q)) (ap p (sym here) ∙ first_at m p (omega (arith, here, first_le m q, eqb-false _ _ f))) (λ k l. first-before m p k (omega (arith, here)))))
  where
    at : eqb (first (i - 1) (λ j. eqb (head_key (id_at ids j)) (head_key (id_at ids (i - 1))))) (i - 1) ≡ true → head_key (id_at ids (first (i - 1) (λ j. eqb (head_key (id_at ids j)) (head_key (id_at ids (i - 1)))))) ≡ head_key (id_at ids i)
    at t = ap (λ z. head_key (id_at ids z)) (borrow.Author.Tests.eqb-true _ _ t) ∙ e

-- ---- the tests on texts are those of the rules on canonical forms

module _ (reading : Reading) (x y : List ℕ) (some : empty ((rules_of reading).canon x) ≡ false) (other : empty ((rules_of reading).canon y) ≡ false) where
  pub same_by : same_text ((rules_of reading).canon x) ((rules_of reading).canon y) ≡ (rules_of reading).same_meaning ((rules_of reading).canon x) ((rules_of reading).canon y)
  unfolding rules_of id_rules
  same_by = same_rules _ _ (canon_of_general reading x) some (canon_of_general reading y) other

  pub mixed_by : mixed_text ((rules_of reading).canon x) ((rules_of reading).canon y) ≡ (rules_of reading).mixed ((rules_of reading).canon x) ((rules_of reading).canon y)
  unfolding rules_of id_rules
  mixed_by = mixed_rules _ _ (canon_of_general reading x) some (canon_of_general reading y) other

  pub compatible_by : compatible_text ((rules_of reading).canon x) ((rules_of reading).canon y) ≡ (rules_of reading).compatible ((rules_of reading).canon x) ((rules_of reading).canon y)
  unfolding rules_of id_rules
  compatible_by = compatible_rules _ _ (canon_of_general reading x) some (canon_of_general reading y) other
