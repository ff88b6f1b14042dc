-- The three tests on meanings: compatible, the same meaning, mixed. Definitions only.
use Rattle.std.specs.Prelude.{ℕ, Bool, not, ◌&&◌, cond, List}
use Rattle.std.specs.Bool.{beq}
use Rattle.wire.specs.Lists.{agree, any, every}
use Rattle.wire.specs.Bytes.{bytes, same}
use Rattle.entry_id.specs.Meaning.{Feature, Meaning, six_fields}

-- "hip and hipv4 are one thing now": the kind that a kind is compared as
unfoldable pub compared_kind : List ℕ → List ℕ
compared_kind k = cond (same k (bytes "hipv4")) (bytes "hip") k

-- the meaning that a meaning is compared as. "The canonical form keeps the kind as spelled": it is written from the meaning itself.
unfoldable pub compared_as : Meaning → Meaning
compared_as m = record {
  kind = compared_kind m.kind;
  arch = m.arch;
  vendor = m.vendor;
  system = m.system;
  environment = m.environment;
  processor = m.processor;
  features = m.features;
}

-- "kind, triple and processor are the same (both may lack a processor)", hip and hipv4 being one kind
unfoldable pub same_target : Meaning → Meaning → Bool
same_target a b = agree same (six_fields (compared_as a)) (six_fields (compared_as b))

-- the same name "with the same sign"
unfoldable pub same_feature : Feature → Feature → Bool
same_feature f g = same f.name g.name && beq f.on g.on

-- "An entry is compatible with a device name when kind, triple and processor are the same .. and every feature that the entry states is
-- stated by the device with the same sign." "From now on compatibility treats them as equal, and so do TWICE and MIXED".
unfoldable pub compatible : Meaning → Meaning → Bool
compatible e d = same_target e d && every (λ f. any (same_feature f) d.features) e.features

-- "the same meaning"
unfoldable pub same_meaning : Meaning → Meaning → Bool
same_meaning a b = same_target a b && agree same_feature a.features b.features

-- "the same set of feature names", of features in order of their names (the theorem `same_names_lem` has it on sets)
unfoldable pub same_names : List Feature → List Feature → Bool
same_names a b = agree (λ f g. same f.name g.name) a b

-- "equal kind, triple and processor .. other feature names"
unfoldable pub mixed : Meaning → Meaning → Bool
mixed a b = same_target a b && not (same_names a.features b.features)
