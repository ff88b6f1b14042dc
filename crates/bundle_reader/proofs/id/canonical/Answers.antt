use Rattle.entry_id.specs.Canonical.{canonical_in}
use Rattle.entry_id.specs.Rules.{canon_of, form_in}
use Rattle.entry_id.specs.declared.Reading.TheVariants.{General, Profile}
use Rattle.bundle_reader.proofs.IdLaws.{made_in}
use Rattle.bundle_reader.proofs.id.canonical.Goals as goal

pub returns-in-General : goal.returns-in-General
unfolding form_in canon_of canonical_in
returns-in-General c = rw c.in-General.is (made_in General _ _ _ _ c.told-room c.canonical.ensures)

pub returns-in-Profile : goal.returns-in-Profile
returns-in-Profile c = rw c.in-Profile.is (made_in Profile _ _ _ _ c.told-room c.canonical_profile.ensures)
