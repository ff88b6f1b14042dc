-- What the profile accepts the general reading accepts, and what the general reading picks the profile picks. Assumes nothing.
use Prim.Native.Nat.{ℕ, ◌<◌}
use native.Mathlib.Omega.{arith}
use mathlib.Core.Path.{◌≡◌, sym, ◌∙◌, subst}
use mathlib.Core.Bool.{Bool, true, false}
use mathlib.Core.List.{List}
use lib.Dec.{T}
use Rattle.wire.proofs.Bools.{yes_not, of_true, is_true, is_false}
use Rattle.entry_id.specs.declared.Reading.TheVariants.{Profile}
use Rattle.entry_id.specs.Meaning.{valid}
use Rattle.entry_id.specs.Profile.{profile_valid}
use Rattle.entry_id.specs.Rules.{id_rules, rules_of}
use Rattle.entry_id.proofs.RuleLaws.{profile_reads, named-valid}
use Rattle.entry_id.proofs.Theorems.{profile_ids}
use Rattle.bundle.specs.Table.{count, row}
use Rattle.bundle.specs.Check.{bad_id, mean_same, mix}
use Rattle.bundle.specs.Pick.{compatible_at, chosen, pick_stop, pick}
use Rattle.bundle.specs.Accepted.{Accepted}
use Rattle.bundle.specs.Theorems.{Asked}
use Rattle.bundle.specs.Stricter.{ProfileStricter}
use Rattle.bundle.proofs.PickLaws.{chosen_lt, chosen-compatible, pick-image}
use Rattle.bundle.proofs.Demand2.{demand2, profile_demand2}

-- x finds nothing where y, which finds all that x finds, finds nothing
none_too : {x g y p : Bool} → x ≡ g → y ≡ p → (T g → T p) → y ≡ false → x ≡ false
none_too {x} e q stays f = is_false x (λ t. subst T (sym q ∙ f) (stays (subst T e t)))

module _ (s : List ℕ) (a : Accepted (rules_of Profile) s) where
  -- every ID is one by the profile, so one in general
  own : (i : ℕ) → i < count s → T (profile_valid (row s i).id)
  unfolding bad_id
  own i h = named-valid profile_reads (row s i).id (a.sense.meant.named i h)

  general : (i : ℕ) → i < count s → T (valid (row s i).id)
  general i h = profile_ids.stricter (row s i).id (own i h)

  module _ (i : ℕ) (h : i < count s) (j : ℕ) (l : j < i) where
    in_count : j < count s
    in_count = omega (arith, h, l)

    once : mean_same id_rules (row s j) (row s i) ≡ false
    once =
        none_too (demand2.by_meaning.means_same (row s j) (row s i) (general j in_count) (general i h))
        (profile_demand2.by_meaning.means_same (row s j) (row s i) (own j in_count) (own i h)) (profile_ids.same_stays (row s j).id (row s i).id) (a.sense.meant.once i h j l)

    unmixed : mix id_rules (row s j) (row s i) ≡ false
    unmixed =
        none_too (demand2.by_meaning.is_mixed (row s j) (row s i) (general j in_count) (general i h))
        (profile_demand2.by_meaning.is_mixed (row s j) (row s i) (own j in_count) (own i h)) (profile_ids.mixed_stays (row s j).id (row s i).id) (a.sense.meant.unmixed i h j l)

  accepted_general : Accepted id_rules s
  accepted_general = record {
    frame = a.frame;
    sense = record {
      meant = record { named = λ i h. demand2.by_meaning.id_broken (row s i) ∙ yes_not (valid (row s i).id) (is_true _ (general i h)); once = once; unmixed = unmixed };
      in_range = a.sense.in_range;
    };
    apart = a.apart;
  }

  module _ (device : List ℕ) (v : T (profile_valid device)) where
    asked : Asked (rules_of Profile) s device
    asked = record { bundle = a; name = profile_demand2.by_meaning.name_broken device ∙ yes_not (profile_valid device) (is_true _ v) }

    fits_too : (i : ℕ) → i < count s → compatible_at id_rules s device i ≡ true → compatible_at (rules_of Profile) s device i ≡ true
    fits_too i h e =
        let g = sym (demand2.by_meaning.fits s device i (general i h) (profile_ids.stricter device v)) ∙ e in
        profile_demand2.by_meaning.fits s device i (own i h) v ∙ is_true _ (profile_ids.compatible_stays (row s i).id device (of_true _ g))

    picked : (pick_stop id_rules s device).number ≡ 0 → pick id_rules s device ≡ pick (rules_of Profile) s device
    picked e =
        let i = chosen id_rules s device in
        let h = chosen_lt id_rules s device e in
        pick-image id_rules s device e ∙ sym (((profile_demand2.picked s device).image i).1 (asked, (h, fits_too i h (chosen-compatible id_rules s device e))))

pub profile_stricter_lem : ProfileStricter
unfolding pick
profile_stricter_lem = record {
  checked = λ s z.
      let a = (profile_demand2.checked s).accepted.0 z in
      (demand2.checked s).counted (accepted_general s a) ∙ sym ((profile_demand2.checked s).counted a);
  picked = λ s device z v. picked s ((profile_demand2.checked s).accepted.0 z) device v;
}
