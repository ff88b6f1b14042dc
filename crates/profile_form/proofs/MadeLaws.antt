-- The general form, made first, as the profile's form is made from it. Assumes nothing.
use Prim.Native.Nat.{ℕ, ◌<◌, ◌≤◌}
use native.Mathlib.Omega.{arith}
use Rattle.std.proofs.Common.{Option, Some, None}
use mathlib.Core.Path.{◌≡◌, sym, ap, ◌∙◌, subst}
use mathlib.Core.List.{List, [], ◌++◌}
use lib.ListN.{length, take, drop, length-append}
use lib.Seq.{take_at}
use Rattle.entry_id.specs.Meaning.{canon}
use Rattle.entry_id.specs.Canonical.{head_key, in_room, canonical_in}
use Rattle.entry_id.specs.Profile.{profile_canon}
use Rattle.entry_id.specs.Rules.{canon_of, rules_of, form_in}
use Rattle.entry_id.specs.declared.Reading.TheVariants.{General, Profile}
use Rattle.entry_id.proofs.ReadBack.{canon_again}
use Rattle.entry_id.proofs.ProfileLaws.{from_general, profile_back}
use Rattle.entry_id.proofs.RuleLaws.{form_whole}
use Rattle.canonical_form.specs.declared.Form.{Form}
use Rattle.canonical_form.specs.Made.{form_of}
use Rattle.canonical_form.proofs.MadeLaws.{form_parts, form_none, no_form}
use Rattle.profile_form.specs.Parts.{Written}
use Rattle.profile_form.proofs.WriteLaws.{room_nil}

module _ (id before : List ℕ) (room : length before ≡ 256) where
  canon_is : canonical_in (length before) id ≡ canon id
  unfolding canonical_in form_in rules_of canon_of
  canon_is = form_whole General (length before) id (omega arith)

  -- there is none
  pub made_none : None ≡ form_of (canonical_in (length before) id) → (out : List ℕ)
      → (None ≡ form_of (form_in Profile (length out) id)) × (out ≡ form_in Profile (length out) id ++ drop (length (form_in Profile (length out) id)) out)
  unfolding form_in canon_of
  made_none e out =
      let c : canon id ≡ [] = sym canon_is ∙ form_none (canonical_in (length before) id) e in
      let p : profile_canon id ≡ [] = from_general id ∙ ap profile_canon c ∙ profile_back.none in
      no_form (form_in Profile (length out) id) out (ap (in_room (length out)) p ∙ room_nil (length out))

  module _ (after : List ℕ) (r : Form) (f : Some r ≡ form_of (canonical_in (length before) id))
      (t : after ≡ canonical_in (length before) id ++ drop (length (canonical_in (length before) id)) before) where
    told : (0 < length (canon id)) × (r.length ≡ length (canon id)) × (r.key ≡ head_key (canon id))
    told = form_parts (canon id) r (f ∙ ap form_of canon_is)

    text_is : after ≡ canon id ++ drop (length (canon id)) before
    text_is = t ∙ ap (λ c. c ++ drop (length c) before) canon_is

    pub made-text : take r.length after ≡ canon id
    made-text = ap (take r.length) text_is ∙ take_at (canon id) (drop (length (canon id)) before) r.length (sym told.1)

    pub made-within : r.length ≤ length after
    made-within = omega (arith, told.1, ap length text_is ∙ length-append (canon id) (drop (length (canon id)) before))

    pub made-long : r.length ≡ length (take r.length after)
    made-long = told.1 ∙ sym (ap length made-text)

    pub made_again : canon (take r.length after) ≡ take r.length after
    made_again = ap canon made-text ∙ canon_again id ∙ sym made-text

    pub made_some : 0 < length (take r.length after)
    made_some = omega (arith, told.0, ap length made-text)

    pub made_keyed : r.key ≡ head_key (take r.length after)
    made_keyed = told.2 ∙ ap head_key (sym made-text)

    pub made_profile : (out out' : List ℕ) (q : Option Form) → Written (profile_canon (take r.length after)) out out' q
        → (q ≡ form_of (form_in Profile (length out) id)) × (out' ≡ form_in Profile (length out) id ++ drop (length (form_in Profile (length out) id)) out)
    unfolding form_in canon_of
    made_profile out out' q w =
        let e : profile_canon (take r.length after) ≡ profile_canon id = ap profile_canon made-text ∙ sym (from_general id) in
        let v = subst (λ c. Written c out out' q) e w in
        (v.form_is, v.text)
