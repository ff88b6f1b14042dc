use Rattle.entry_id.specs.Canonical.{canonical_in}
use Rattle.entry_id.specs.Rules.{canon_of, form_in}
use Rattle.profile_form.proofs.canonical_by.Goals as goal

-- `profile_form::canonical_by` meets its contract. Assumes nothing.
pub returns-in-Profile : goal.returns-in-Profile
unfolding form_in canon_of
returns-in-Profile c = rw c.in-Profile.is c.canonical_profile.ensures

pub returns-in-General : goal.returns-in-General
unfolding form_in canon_of canonical_in
returns-in-General c = rw c.in-General.is c.canonical.ensures
