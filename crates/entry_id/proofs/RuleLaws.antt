-- The project's ID rules are those of its reading and are lawful, and code on canonical forms decides them. Assumes nothing.
use Prim.Native.Nat.{ℕ, ◌≤◌}
use native.Mathlib.Omega.{arith}
use mathlib.Core.Path.{◌≡◌, refl, sym, ap, ap₂, ◌∙◌, subst}
use mathlib.Core.Logic.{inl, inr, ◌↔◌}
use mathlib.Core.Bool.{Bool, true, false, not, ◌&&◌}
use mathlib.Core.List.{List, [], ◌∷◌, map, Memᴰ}
use lib.ListN.{length}
use lib.Dec.{T}
use borrow.Author.Tests.{le-leb}
use Rattle.wire.specs.Lists.{agree}
use Rattle.wire.specs.Bytes.{empty, same}
use Rattle.wire.specs.Order.{rising_by}
use Rattle.wire.proofs.ByteLaws.{same_sym}
use Rattle.wire.proofs.Bools.{clash, cases, not_no, of_true, is_true, bool_ext}
use Rattle.entry_id.specs.Meaning.{Feature, Meaning, by_name, feature, pieces_of, meaning, six_fields, valid, canon}
use Rattle.entry_id.specs.Compare.{compared_as, compatible, same_meaning, mixed, same_target, same_names}
use Rattle.entry_id.specs.Profile.{profile_meaning, profile_valid, profile_canon}
use Rattle.entry_id.specs.Canonical.{compatible_text, same_text, mixed_text, in_room}
use Rattle.entry_id.specs.declared.Reading.{Reading}
use Rattle.entry_id.specs.declared.Reading.TheVariants.{General, Profile}
use Rattle.entry_id.specs.IdRules.{IdRules, Lawful}
use Rattle.entry_id.specs.Reads.{Reads}
use Rattle.entry_id.specs.Rules.{id_rules, canon_of, rules_of, form_in}
use Rattle.entry_id.proofs.ReadBack.{parts, write_some, ReadsBack, form_is, form-refused, one_form, proper-meaning, canon_back, canon-meaning, canon-valid, canon-size, canon_again, canon-refused}
use Rattle.entry_id.proofs.FeatureLaws.{features_stated, same_meaning_eq, eq_same_meaning, one_entry}
use Rattle.entry_id.proofs.ProfileLaws.{proper_of, profile_back, profile_form-meaning, profile_stated, profile_general, profile_again}
use Rattle.entry_id.proofs.CanonicalLaws.{compatible_canonical, mixed_canonical, same_canonical}

-- ---- which texts are IDs, and what they mean

-- a form that is there for IDs alone
form-broken : (id : Bool) (form : List ℕ) → (T id → 1 ≤ length form) → (id ≡ false → form ≡ []) → empty form ≡ not id
unfolding empty
form-broken true [] p q = let h = p tt in absurd (omega arith)
form-broken true (x ∷ l) p q = refl
form-broken false l p q = ap empty (q refl)

-- the forms of a reading that have its meanings by the general one, with the general tests
module _ (right : List ℕ → Bool) (mean : List ℕ → Meaning) (form : List ℕ → List ℕ) (b : ReadsBack right mean form) where
  reads : ((x : List ℕ) → T (right x) → meaning (form x) ≡ mean x)
      → ((x : List ℕ) (f : Feature) → Memᴰ f (mean x).features ↔ Memᴰ f (map feature (pieces_of x)))
      → ((x : List ℕ) → T (right x) → T (rising_by by_name (mean x).features))
      → Reads (record { canon = form; same_meaning = id_rules.same_meaning; mixed = id_rules.mixed; compatible = id_rules.compatible }) right mean
  unfolding id_rules
  reads means stated ordered = record {
    broken = λ x. form-broken (right x) (form x) (λ v. rw (form_is right mean form b x v) (write_some (mean x))) (form-refused right mean form b x);
    one_form = one_form right mean form b;
    features_stated = stated;
    in_order = ordered;
    means_same = λ x y v w. ap₂ same_meaning (means x v) (means y w);
    is_mixed = λ x y v w. ap₂ mixed (means x v) (means y w);
    fits = λ e d v w. ap₂ compatible (means e v) (means d w);
  }

pub id_rules-reads : Reads id_rules valid meaning
unfolding id_rules
id_rules-reads = reads valid meaning canon canon_back canon-meaning features_stated (λ x v. (parts (meaning x) (proper-meaning x v)).in_order)

pub profile_reads : Reads (rules_of Profile) profile_valid profile_meaning
unfolding rules_of canon_of
profile_reads = reads profile_valid profile_meaning profile_canon profile_back profile_form-meaning profile_stated (λ x v. (proper_of x v).in_order)

-- by any reading a text with a canonical form is an ID
pub named-valid : {R : IdRules} {valid : List ℕ → Bool} {mean : List ℕ → Meaning} → Reads R valid mean
    → (x : List ℕ) → empty (R.canon x) ≡ false → T (valid x)
named-valid {valid} Q x e = of_true (valid x) (not_no (valid x) (sym (Q.broken x) ∙ e))

-- ---- the rules are lawful

canon_short : (x : List ℕ) → length (canon x) ≤ 256
canon_short x = elim (cases (valid x)) [
  | inl v ↦ (canon-size x (of_true (valid x) v)).1
  | inr v ↦ rw (canon-refused x v) (omega arith)
]

agree_sym : {A : Type 0} (t : A → A → Bool) → ((x y : A) → t x y ≡ t y x) → (a b : List A) → agree t a b ≡ agree t b a
unfolding agree
agree_sym t h [] [] = refl
agree_sym t h [] (y ∷ b) = refl
agree_sym t h (x ∷ a) [] = refl
agree_sym t h (x ∷ a) (y ∷ b) = ap₂ ◌&&◌ (h x y) (agree_sym t h a b)

same_meaning_sym : (a b : Meaning) → same_meaning a b ≡ same_meaning b a
same_meaning_sym a b =
    bool_ext (same_meaning a b) (same_meaning b a)
    (λ t. eq_same_meaning b a (sym (same_meaning_eq a b t)))
    (λ t. eq_same_meaning a b (sym (same_meaning_eq b a t)))

mixed_sym : (a b : Meaning) → mixed a b ≡ mixed b a
unfolding mixed same_target same_names
mixed_sym a b =
    ap₂ (λ s n. s && not n)
    (agree_sym same same_sym (six_fields (compared_as a)) (six_fields (compared_as b)))
    (agree_sym (λ f g. same f.name g.name) (λ f g. same_sym f.name g.name) a.features b.features)

one : (x y d : List ℕ) → empty (canon d) ≡ false
    → compatible (meaning (canon x)) (meaning (canon d)) ≡ true → compatible (meaning (canon y)) (meaning (canon d)) ≡ true
    → same_meaning (meaning (canon x)) (meaning (canon y)) ≡ false → mixed (meaning (canon x)) (meaning (canon y)) ≡ false → ⊥
unfolding id_rules
one x y d v p q s m =
    let e = one_entry (canon x) (canon y) (canon d) (canon-valid d (named-valid id_rules-reads d v)) (of_true _ p) (of_true _ q) (of_true _ (ap not m)) in
    clash (same_meaning (meaning (canon x)) (meaning (canon y))) (is_true _ (eq_same_meaning _ _ e)) s

pub id_rules_lawful : Lawful id_rules
unfolding id_rules
id_rules_lawful = record {
  canon_again = canon_again;
  canon_short = canon_short;
  same_self = λ x v. is_true _ (eq_same_meaning (meaning (canon x)) (meaning (canon x)) refl);
  same_sym = λ x y. same_meaning_sym (meaning (canon x)) (meaning (canon y));
  mixed_sym = λ x y. mixed_sym (meaning (canon x)) (meaning (canon y));
  one_compatible = λ x y d u v w. one x y d w;
}

-- ---- what the functions on canonical forms say of the rules

module _ (a b : List ℕ) (again-a : canon a ≡ a) (some-a : empty a ≡ false) (again-b : canon b ≡ b) (some-b : empty b ≡ false) where
  valid_a : T (valid a)
  unfolding id_rules
  valid_a = named-valid id_rules-reads a (ap empty again-a ∙ some-a)

  valid_b : T (valid b)
  unfolding id_rules
  valid_b = named-valid id_rules-reads b (ap empty again-b ∙ some-b)

  -- a test on canonical texts that is one on meanings
  on_texts : (text : List ℕ → List ℕ → Bool) (test : Meaning → Meaning → Bool) → (T (valid a) → T (valid b) → text (canon a) (canon b) ≡ test (meaning a) (meaning b)) → text a b ≡ test (meaning a) (meaning b)
  on_texts text test h = sym (ap₂ text again-a again-b) ∙ h valid_a valid_b

  pub compatible_rules : compatible_text a b ≡ id_rules.compatible a b
  unfolding id_rules
  compatible_rules = on_texts compatible_text compatible (compatible_canonical a b)

  pub same_rules : same_text a b ≡ id_rules.same_meaning a b
  unfolding id_rules
  same_rules = on_texts same_text same_meaning (same_canonical a b)

  pub mixed_rules : mixed_text a b ≡ id_rules.mixed a b
  unfolding id_rules
  mixed_rules = on_texts mixed_text mixed (mixed_canonical a b)

-- ---- the profile's rules beside the general ones

-- other canonical forms that are canonical by R, with R's tests, are lawful
module _ (R : IdRules) (L : Lawful R) (c : List ℕ → List ℕ) (within : (x : List ℕ) → R.canon (c x) ≡ c x) (again : (x : List ℕ) → c (c x) ≡ c x) where
  narrower_lawful : Lawful (record { canon = c; same_meaning = R.same_meaning; mixed = R.mixed; compatible = R.compatible })
  narrower_lawful = record {
    canon_again = again;
    canon_short = λ x. subst (λ z. length z ≤ 256) (within x) (L.canon_short (c x));
    same_self = λ x e. subst (λ z. R.same_meaning z z ≡ true) (within x) (L.same_self (c x) (ap empty (within x) ∙ e));
    same_sym = λ x y. rw (sym (within x), sym (within y)) (L.same_sym (c x) (c y));
    mixed_sym = λ x y. rw (sym (within x), sym (within y)) (L.mixed_sym (c x) (c y));
    one_compatible = λ x y d u v w p q s m.
        L.one_compatible (c x) (c y) (c d) (ap empty (within x) ∙ u) (ap empty (within y) ∙ v) (ap empty (within d) ∙ w)
        (ap₂ R.compatible (within x) (within d) ∙ p) (ap₂ R.compatible (within y) (within d) ∙ q)
        (ap₂ R.same_meaning (within x) (within y) ∙ s) (ap₂ R.mixed (within x) (within y) ∙ m);
  }

-- a canonical form by a reading is one by the general rules
pub canon_of_general : (r : Reading) (x : List ℕ) → id_rules.canon (canon_of r x) ≡ canon_of r x
unfolding id_rules canon_of
canon_of_general General x = canon_again x
canon_of_general Profile x = profile_general x

canon_of-again : (r : Reading) (x : List ℕ) → canon_of r (canon_of r x) ≡ canon_of r x
unfolding canon_of
canon_of-again General x = canon_again x
canon_of-again Profile x = profile_again x

pub rules_lawful : (r : Reading) → Lawful (rules_of r)
unfolding rules_of
rules_lawful r = narrower_lawful id_rules id_rules_lawful (canon_of r) (canon_of_general r) (canon_of-again r)

-- a buffer of 256 bytes has room for every canonical form
pub form_whole : (r : Reading) (room : ℕ) (x : List ℕ) → 256 ≤ room → form_in r room x ≡ (rules_of r).canon x
unfolding rules_of form_in in_room
form_whole r room x h = rw (le-leb (length (canon_of r x)) room (omega (arith, (rules_lawful r).canon_short x)))
