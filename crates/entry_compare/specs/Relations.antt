-- What a relation says of two texts. Definitions only.
use Rattle.std.specs.Prelude.{Bool, true, false}
use Rattle.entry_compare.specs.declared.Relation.{Relation}
use Rattle.entry_compare.specs.declared.Relation.TheVariants.{Same, Mixed, Apart}

-- they have the same meaning
abbrev pub is_same : Relation → Bool
is_same Same = true
is_same Mixed = false
is_same Apart = false

-- they have equal heads and other feature names
abbrev pub is_mixed : Relation → Bool
is_mixed Same = false
is_mixed Mixed = true
is_mixed Apart = false
