-- A result by its numbers: a refusal's is never 0. Assumes nothing.
use native.Mathlib.Omega.{arith}
use mathlib.Core.Path.{◌≡◌, refl, sym}
use lib.Dec.{eqb}
use borrow.Author.Tests.{ne_eqb}
use Rattle.std.proofs.Common.{Result, Ok, Err}
use Rattle.std.specs.Result.{is_ok}
use Rattle.wire.specs.Refusals.{number_of}
use Rattle.wire.specs.declared.Reason.{Reason}
use Rattle.wire.specs.declared.Reason.TheVariants as reasons
use Rattle.wire.specs.declared.Refusal.{Refusal}
use Rattle.offload_binary.specs.Results.{answer_of}
use Rattle.offload_binary.specs.declared.Binary.{Binary}

pub number_some : (k : Reason) → number_of k ≡ 0 → ⊥
number_some reasons.Length e = omega arith
number_some reasons.Magic e = omega arith
number_some reasons.Count e = omega arith
number_some reasons.Table e = omega arith
number_some reasons.Id e = omega arith
number_some reasons.Range e = omega arith
number_some reasons.Twice e = omega arith
number_some reasons.Mixed e = omega arith
number_some reasons.Query e = omega arith
number_some reasons.None e = omega arith
number_some reasons.Big e = omega arith
number_some reasons.Room e = omega arith
number_some reasons.Head e = omega arith
number_some reasons.Span e = omega arith
number_some reasons.Kind e = omega arith
number_some reasons.Strings e = omega arith
number_some reasons.Image e = omega arith
number_some reasons.Many e = omega arith
number_some reasons.End e = omega arith
number_some reasons.Overlap e = omega arith
number_some reasons.Names e = omega arith

pub ok_is : (r : Result Binary Refusal) → is_ok r ≡ eqb (answer_of r).number 0
ok_is (Ok b) = refl
ok_is (Err r) = sym (ne_eqb _ _ (number_some r.reason))
