-- The report, as it comes of what was read. Assumes nothing.
use Prim.Native.Nat.{ℕ, zero, suc, ◌<◌}
use native.Mathlib.Omega.{arith}
use mathlib.Core.Path.{◌≡◌, sym, ap, ap₂, ◌∙◌}
use mathlib.Core.List.{List, [], ◌∷◌}
use lib.ListN.{length}
use Rattle.wire.specs.Bytes.{bytes, overwrite}
use Rattle.entry_id.specs.Rules.{id_rules}
use Rattle.entry_id.proofs.RuleLaws.{id_rules_lawful}
use Rattle.wire.specs.Order.{sort_by}
use Rattle.bundle.specs.Entry.{Entry, entries}
use Rattle.bundle.specs.Normal.{by_id}
use Rattle.bundle.specs.Differences.{Difference, differences_of, printed, refused_line, difference_lines, differences, input_stop, report, reported}
use Rattle.bundle.proofs.NormalLaws.{accepted_writable}
use Rattle.bundle.proofs.ReportLaws.{left_refused, right_refused, compared, input_accepted}
use Rattle.bundle.proofs.WalkLaws.{differences_sorted}

module _ (a b : List ℕ) where
  -- bytes that are the report, where they fit
  pub reported_as : (out x : List ℕ) (len : ℕ) (after : List ℕ) → x ≡ report id_rules a b → (len ≡ length x) × (after ≡ overwrite out 0 x)
      → (len ≡ length (report id_rules a b)) × (after ≡ reported id_rules a b out)
  unfolding reported
  reported_as out x len after e (l, o) = (l ∙ ap length e, o ∙ ap (overwrite out 0) e)

  pub left-report : (n : ℕ) → 0 < n → n ≡ (input_stop id_rules a).number → printed (refused_line (bytes "left") n ∷ []) ≡ report id_rules a b
  left-report zero h e = absurd (omega (arith, h))
  left-report (suc k) h e = sym (left_refused id_rules a b k (sym e))

  pub right-report : (n : ℕ) → (input_stop id_rules a).number ≡ 0 → 0 < n → n ≡ (input_stop id_rules b).number → printed (refused_line (bytes "right") n ∷ []) ≡ report id_rules a b
  right-report zero z h e = absurd (omega (arith, h))
  right-report (suc k) z h e = sym (right_refused id_rules a b k z (sym e))

  pub found-report : (es fs : List Entry) (ds : List Difference) → (input_stop id_rules a).number ≡ 0 → (input_stop id_rules b).number ≡ 0
      → es ≡ sort_by by_id (entries id_rules a) → fs ≡ sort_by by_id (entries id_rules b) → ds ≡ differences_of es fs
      → printed (difference_lines ds) ≡ report id_rules a b
  unfolding differences
  found-report es fs ds il ir p q f =
      ap (λ ds. printed (difference_lines ds))
      (f ∙ ap₂ differences_of p q
      ∙ differences_sorted (entries id_rules a) (entries id_rules b)
      (accepted_writable id_rules id_rules_lawful a (input_accepted id_rules a il).1).distinct (accepted_writable id_rules id_rules_lawful b (input_accepted id_rules b ir).1).distinct)
      ∙ sym (compared id_rules a b il ir)
