use Rattle.std.proofs.Common.{[], ◌∷◌, length, ◌∙◌, ne_eqb, arith}
use Rattle.wire.specs.Lists.{every}
use Rattle.wire.specs.Bytes.{bytes}
use Rattle.entry_id.specs.Meaning.{kinds}
use Rattle.canonical_form.proofs.ClassLaws.{one_same, none-same}
use Rattle.canonical_form.proofs.head.is_kind.Goals as goal

pub returns-in-3 : goal.returns-in-3
unfolding kinds every
returns-in-3 c =
    let h = c.in-3.is in
    c.same_bytes.ensures ∙ one_same c.args.k.now (bytes "hip") (bytes "host" ∷ []) (bytes "hipv4" ∷ bytes "openmp" ∷ []) (rw h tt) (rw h tt)

pub returns-in-4 : goal.returns-in-4
unfolding kinds every
returns-in-4 c =
    let h = c.in-4.is in
    c.same_bytes-in-4.ensures ∙ one_same c.args.k.now (bytes "host") [] (bytes "hip" ∷ bytes "hipv4" ∷ bytes "openmp" ∷ []) tt (rw h tt)

pub returns-in-5 : goal.returns-in-5
unfolding kinds every
returns-in-5 c =
    let h = c.in-5.is in
    c.same_bytes-in-5.ensures ∙ one_same c.args.k.now (bytes "hipv4") (bytes "host" ∷ bytes "hip" ∷ []) (bytes "openmp" ∷ []) (rw h tt) (rw h tt)

pub returns-in-6 : goal.returns-in-6
unfolding kinds every
returns-in-6 c =
    let h = c.in-6.is in
    c.same_bytes-in-6.ensures ∙ one_same c.args.k.now (bytes "openmp") (bytes "host" ∷ bytes "hip" ∷ bytes "hipv4" ∷ []) [] (rw h tt) tt

pub returns-in_default : goal.returns-in_default
unfolding kinds every
returns-in_default c =
    let k = c.args.k.now in
    none-same k kinds (rw (ne_eqb (length k) 4 (λ z. omega arith), ne_eqb (length k) 3 (λ z. omega arith), ne_eqb (length k) 5 (λ z. omega arith), ne_eqb (length k) 6 (λ z. omega arith)) tt)
