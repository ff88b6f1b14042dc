-- The project's own rules of entry IDs, as the containers take them. Definitions only; `Lawful` of each is proved in proofs/.
use Rattle.std.specs.Prelude.{ℕ, List}
use Rattle.entry_id.specs.declared.Reading.{Reading}
use Rattle.entry_id.specs.declared.Reading.TheVariants.{General, Profile}
use Rattle.entry_id.specs.Meaning.{meaning, canon}
use Rattle.entry_id.specs.Profile.{profile_canon}
use Rattle.entry_id.specs.Compare.{compatible, same_meaning, mixed}
use Rattle.entry_id.specs.Canonical.{in_room}
use Rattle.entry_id.specs.IdRules.{IdRules}

-- the general rules
unfoldable pub id_rules : IdRules
id_rules = record {
  canon = canon;
  same_meaning = λ a b. same_meaning (meaning a) (meaning b);
  mixed = λ a b. mixed (meaning a) (meaning b);
  compatible = λ e d. compatible (meaning e) (meaning d);
}

-- ---- by a reading

-- the canonical form of a text
unfoldable pub canon_of : Reading → List ℕ → List ℕ
canon_of General = canon
canon_of Profile = profile_canon

-- "a stricter reading beside the general one": other canonical forms, and the same tests on them, since a canonical form "writes the primary"
unfoldable pub rules_of : Reading → IdRules
rules_of r = record { canon = canon_of r; same_meaning = id_rules.same_meaning; mixed = id_rules.mixed; compatible = id_rules.compatible }

-- the canonical form where it fits
unfoldable pub form_in : Reading → ℕ → List ℕ → List ℕ
form_in r room x = in_room room (canon_of r x)
