use mathlib.Core.Path.{sym, ap, ◌∙◌}
use lib.ListN.{take, drop}
use Rattle.entry_id.specs.Rules.{id_rules}
use Rattle.entry_id.proofs.RuleLaws.{id_rules_lawful}
use Rattle.bundle.specs.Lookup.{numbers_of, bundle_of}
use Rattle.bundle.specs.declared.Found.{Found}
use Rattle.bundle.proofs.LookupLaws.{lookup_exact}
use Rattle.bundle_lookup.proofs.lookup.Goals as goal

pub part_of-requires : goal.part_of-requires
part_of-requires c =
    let a = c.args in
    rw c.find_image-found.ensures (lookup_exact id_rules a.patch.now a.main.now a.device.now id_rules_lawful).within

pub returns : goal.returns
unfolding numbers_of
returns c = let a = c.args in
    let e = c.find_image-found.ensures in
    record {
      result_value = c.part_of.ensures
          ∙ ap (λ (f : Found). take f.size (drop f.position (bundle_of a.patch.now a.main.now f.bundle))) e
          ∙ sym (lookup_exact id_rules a.patch.now a.main.now a.device.now id_rules_lawful).part;
      numbers_after = ap numbers_of (c.from-f.ensures ∙ e);
    }
