-- Demand 2 of bundles. Assumes nothing.
use Prim.Native.Nat.{ℕ}
use mathlib.Core.Path.{◌≡◌}
use mathlib.Core.Bool.{Bool, true}
use mathlib.Core.List.{List, []}
use Rattle.wire.specs.Bytes.{empty}
use Rattle.entry_id.specs.Meaning.{Meaning, meaning, shaped, valid}
use Rattle.entry_id.specs.IdRules.{IdRules, Lawful}
use Rattle.entry_id.specs.Reads.{Reads}
use Rattle.entry_id.specs.Rules.{id_rules, rules_of}
use Rattle.entry_id.specs.Profile.{profile_meaning, profile_valid}
use Rattle.entry_id.specs.declared.Reading.TheVariants.{Profile}
use Rattle.entry_id.proofs.RuleLaws.{id_rules-reads, profile_reads, id_rules_lawful, rules_lawful}
use Rattle.bundle.specs.Table.{row}
use Rattle.bundle.specs.Check.{bad_id, mean_same, mix}
use Rattle.bundle.specs.Pick.{compatible_at}
use Rattle.bundle.specs.Demand2.{ByMeaning, Demand2, GeneralCalls}
use Rattle.bundle.proofs.OverlapLaws.{overlap_exact, images-apart}
use Rattle.bundle.proofs.PlaceLaws.{place_exact}
use Rattle.bundle.proofs.Theorems.{check_exact, pick_exact, framed_exact, table_decides}
use Rattle.bundle.proofs.EachLaws.{each_exact}
use Rattle.bundle.proofs.LookupLaws.{lookup_exact}
use Rattle.bundle.proofs.EntryAtLaws.{entry_exact}
use Rattle.bundle.proofs.WriterLaws.{writes_read}

-- by any reading
module _ {R : IdRules} {valid : List ℕ → Bool} {mean : List ℕ → Meaning} (Q : Reads R valid mean) where
  by_meaning : ByMeaning R valid mean
  unfolding bad_id mean_same mix compatible_at
  by_meaning = record {
    id_broken = λ r. Q.broken r.id;
    name_broken = Q.broken;
    means_same = λ r q. Q.means_same r.id q.id;
    is_mixed = λ r q. Q.is_mixed r.id q.id;
    fits = λ s device i. Q.fits (row s i).id device;
  }

  pub demand2_of : Lawful R → Demand2 R valid mean
  demand2_of L = record {
    checked = λ s. check_exact R s;
    places = λ s. place_exact R s;
    overlap = overlap_exact;
    apart = images-apart R;
    picked = λ s device. pick_exact R L s device;
    framed = framed_exact;
    table_decides = table_decides R;
    by_meaning = by_meaning;
  }

pub demand2 : Demand2 id_rules valid meaning
demand2 = demand2_of id_rules-reads id_rules_lawful

pub profile_demand2 : Demand2 (rules_of Profile) profile_valid profile_meaning
profile_demand2 = demand2_of profile_reads (rules_lawful Profile)

-- no bytes are no ID
nothing_broken : empty (id_rules.canon []) ≡ true
unfolding valid shaped
nothing_broken = id_rules-reads.broken []

pub general_calls : GeneralCalls
general_calls = record {
  each = λ s buffer names slots. each_exact id_rules s buffer names slots nothing_broken;
  lookup = λ patch main device. lookup_exact id_rules patch main device id_rules_lawful;
  entry = λ s i. entry_exact id_rules s i;
  written = writes_read id_rules id_rules_lawful;
}
