use mathlib.Core.List.{[]}
use Rattle.std.proofs.Common.{rules}
use Rattle.bundle_reader.proofs.IdLaws.{none_read}
use Rattle.bundle_reader.proofs.id.ids_of.Goals as goal

pub returns : goal.returns
returns g c =
    let m = c.from_fn.ensures.items in
    none_read _ _ m.long (λ i h. let (p, q, w) = m.at i [] h in search rules)
