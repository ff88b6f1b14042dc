-- "a stricter reading beside the general one", of bundles. Statements only; `proofs/Stricter` proves it.
use Rattle.std.specs.Prelude.{ℕ, ◌≡◌, List, T}
use Rattle.entry_id.specs.declared.Reading.TheVariants.{Profile}
use Rattle.entry_id.specs.Profile.{profile_valid}
use Rattle.entry_id.specs.Rules.{id_rules, rules_of}
use Rattle.bundle.specs.Check.{check}
use Rattle.bundle.specs.Pick.{pick}

pub record ProfileStricter : Type 0 where
  -- what the profile accepts is accepted in general, with as many entries
  pub checked : (s : List ℕ) → (check (rules_of Profile) s).number ≡ 0 → check id_rules s ≡ check (rules_of Profile) s
  -- from such a bundle a device name that keeps the profile's rules, and gets an image in general, gets the same by the profile
  pub picked : (s device : List ℕ) → (check (rules_of Profile) s).number ≡ 0 → T (profile_valid device) → (pick id_rules s device).number ≡ 0
      → pick id_rules s device ≡ pick (rules_of Profile) s device
