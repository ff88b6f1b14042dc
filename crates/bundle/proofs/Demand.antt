-- Demand 3. Assumes nothing.
use Prim.Native.Nat.{ℕ, ◌<◌}
use mathlib.Core.Path.{◌≡◌, sym, ap, ◌∙◌}
use mathlib.Core.Logic.{◌↔◌}
use mathlib.Core.Bool.{Bool}
use mathlib.Core.List.{List}
use lib.Dec.{T}
use lib.ListN.{length}
use Rattle.wire.proofs.SortLaws.{one_list}
use Rattle.entry_id.specs.Meaning.{Feature, Meaning, by_name, meaning}
use Rattle.entry_id.specs.IdRules.{IdRules, Lawful}
use Rattle.entry_id.specs.Reads.{Reads}
use Rattle.entry_id.specs.Rules.{id_rules, rules_of}
use Rattle.entry_id.specs.Profile.{profile_meaning}
use Rattle.entry_id.specs.declared.Reading.TheVariants.{Profile}
use Rattle.entry_id.proofs.RuleLaws.{id_rules-reads, profile_reads, named-valid, id_rules_lawful, rules_lawful}
use Rattle.bundle.specs.Table.{count, row}
use Rattle.bundle.specs.Check.{bad_id}
use Rattle.bundle.specs.Entry.{image_of, entry_of}
use Rattle.bundle.specs.Accepted.{Accepted}
use Rattle.bundle.specs.Demand.{States, SameId, SameEntry, SameEntries, Demand3}
use Rattle.bundle.proofs.EntryLaws.{length_image_of}
use Rattle.bundle.proofs.SameLaws.{entry, Holds, holds_at, at_holds}
use Rattle.bundle.proofs.NormalLaws.{kept, same-normal, normal-holds}
use Rattle.bundle.proofs.Theorems.{check_exact}

-- by any reading
module _ {R : IdRules} {valid : List ℕ → Bool} {mean : List ℕ → Meaning} (Q : Reads R valid mean) where
  -- ---- IDs by meaning

  module _ (x y : List ℕ) (vx : T (valid x)) (vy : T (valid y)) where
    -- the same set of stated features is the same list
    features-same : ((f : Feature) → States x f ↔ States y f) → (mean x).features ≡ (mean y).features
    unfolding States
    features-same h =
        one_list by_name (mean x).features (mean y).features (Q.in_order x vx) (Q.in_order y vy)
        (λ f m. (Q.features_stated y f).1 ((h f).0 ((Q.features_stated x f).0 m)))
        (λ f m. (Q.features_stated x f).1 ((h f).1 ((Q.features_stated y f).0 m)))

    same-canon : SameId mean x y → R.canon x ≡ R.canon y
    same-canon s =
        let fs = features-same s.features in
        (Q.one_form x y vx vy).1 (λ i. record {
          kind = s.kind i;
          arch = s.arch i;
          vendor = s.vendor i;
          system = s.system i;
          environment = s.environment i;
          processor = s.processor i;
          features = fs i;
        })

    canon-same : R.canon x ≡ R.canon y → SameId mean x y
    unfolding States
    canon-same e =
        let m : mean x ≡ mean y = (Q.one_form x y vx vy).0 e in
        record {
          kind = ap (λ z. z.kind) m;
          arch = ap (λ z. z.arch) m;
          vendor = ap (λ z. z.vendor) m;
          system = ap (λ z. z.system) m;
          environment = ap (λ z. z.environment) m;
          processor = ap (λ z. z.processor) m;
          features = λ f. (
            (λ u. (Q.features_stated y f).0 (rw m at ((Q.features_stated x f).1 u))),
            (λ u. (Q.features_stated x f).0 (rw m ((Q.features_stated y f).1 u))),
          );
        }

  -- ---- entries by meaning

  module _ (a b : List ℕ) (acc : Accepted R a) (bcc : Accepted R b) where
    row-valid : (s : List ℕ) → Accepted R s → (i : ℕ) → i < count s → T (valid (row s i).id)
    unfolding bad_id
    row-valid s p i h = named-valid Q (row s i).id (p.sense.meant.named i h)

    same-entry : (i j : ℕ) → i < count a → j < count b → SameEntry mean a i b j → entry R a i ≡ entry R b j
    unfolding entry_of
    same-entry i j h l s =
        let c = same-canon (row a i).id (row b j).id (row-valid a acc i h) (row-valid b bcc j l) s.id in
        λ k. record { id = c k; image = s.image k }

    entry-same : (i j : ℕ) → i < count a → j < count b → entry R a i ≡ entry R b j → SameEntry mean a i b j
    unfolding entry_of
    entry-same i j h l e =
        let im : image_of a (row a i) ≡ image_of b (row b j) = ap (λ z. z.image) e in
        record {
          id = canon-same (row a i).id (row b j).id (row-valid a acc i h) (row-valid b bcc j l) (ap (λ z. z.id) e);
          size = sym (length_image_of a (row a i) (acc.sense.in_range i h).within) ∙ ap length im ∙ length_image_of b (row b j) (bcc.sense.in_range j l).within;
          image = im;
        }

    pub same_entries : Holds R a b → Holds R b a → SameEntries mean a b
    same_entries h g = record {
      left = λ i l. let k = holds_at R a b h i l in (k.0, k.1, entry-same i k.0 l k.1 k.2);
      right = λ j l. let k = holds_at R b a g j l in (k.0, k.1, entry-same k.0 j k.1 l (sym k.2));
    }

    pub entries-same : SameEntries mean a b → Holds R a b × Holds R b a
    entries-same s = (
      at_holds R a b (λ i l. let k = s.left i l in (k.0, k.1, same-entry i k.0 l k.1 k.2)),
      at_holds R b a (λ j l. let k = s.right j l in (k.0, k.1, sym (same-entry k.0 j k.1 l k.2))),
    )

  pub demand3_of : Lawful R → Demand3 R mean
  demand3_of L = record {
    same_bytes = λ a b pa pb.
        let acc = (check_exact R a).accepted.0 pa in
        let bcc = (check_exact R b).accepted.0 pb in (
          (λ e. same_entries a b acc bcc (normal-holds R L a b acc bcc e) (normal-holds R L b a bcc acc (sym e))),
          (λ s. let h = entries-same a b acc bcc s in same-normal R L a b acc bcc h.0 h.1),
        );
    kept = λ s device p w. kept R L s ((check_exact R s).accepted.0 p) w device;
  }

pub demand3 : Demand3 id_rules meaning
demand3 = demand3_of id_rules-reads id_rules_lawful

-- "In the profile, demand 3 speaks of these meanings and of the profile's own three calls"
pub profile_demand3 : Demand3 (rules_of Profile) profile_meaning
profile_demand3 = demand3_of profile_reads (rules_lawful Profile)
