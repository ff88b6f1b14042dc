use Rattle.std.proofs.Common.{◌≡◌, ℕ, ◌<◌, ◌≤◌, List, length, take, sym, ap, arith, length-take-le}
use Rattle.profile_form.specs.Table.{table, row_at, name_at}
use Rattle.profile_form.specs.declared.table.Row.{Row}
use Rattle.profile_form.proofs.TableLaws.{table-length, size_small, name_long}
use Rattle.profile_form.proofs.table.name_at.Goals as goal

small : (t : List Row) (k : ℕ) → t ≡ table → k < 68 → ((row_at t k).length ≤ 16) × (length (row_at t k).name ≡ 16)
small t k e h = rw e (size_small k h, name_long k h)

pub bounds-t-k : goal.bounds-t-k
bounds-t-k c = omega (arith, ap length c.requires.0, table-length)

pub slice_bounds-result-end : goal.slice_bounds-result-end
slice_bounds-result-end c = let s = small c.args.t.now c.args.k c.requires.0 c.requires.1 in sym (length-take-le _ _ (omega arith))

pub returns : goal.returns
unfolding name_at
returns c = ap (λ t. take (row_at t c.args.k).length (row_at t c.args.k).name) c.requires.0
