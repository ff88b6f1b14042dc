use native.Mathlib.Omega.{arith}
use Rattle.std.proofs.Common.{sym, ◌∙◌}
use lib.Seq.{length-take-le}
use Rattle.offload_binary_reader.proofs.ReadLaws.{none_is, some_is, was_none, was_some, table_fits}
use Rattle.offload_binary_reader.proofs.BodyLaws.{strings_table, strings_pairs, pairs_long, strings_keys}
use Rattle.offload_binary_reader.proofs.read_strings.Goals as goal

pub returns-then-bad_table : goal.returns-then-bad_table
returns-then-bad_table c =
    let a = c.args in
    none_is _ _ (strings_table a.s.now a.from a.own.now c.requires.0 c.requires.1 a.table a.count (sym c.bad_table.ensures ∙ c.if-bad_table.true))

pub read_pairs-requires : goal.read_pairs-requires
read_pairs-requires c =
    let a = c.args in
    let f = table_fits _ a.table a.count (sym c.bad_table.ensures ∙ c.if-bad_table.false) in
    (omega arith, (f.few, f.within))

pub returns-in_err-pairs : goal.returns-in_err-pairs
returns-in_err-pairs c =
    let a = c.args in
    c.from_residual.ensures ∙ none_is _ _ (strings_pairs a.s.now a.from a.own.now c.requires.0 c.requires.1 a.table a.count (was_none _ _ _ c.read_pairs.ensures c.in_err-pairs.was))

pub slice_bounds-pairs-end : goal.slice_bounds-pairs-end
slice_bounds-pairs-end c =
    let a = c.args in
    let r = was_some _ _ _ c.in_ok-pairs.pairs c.read_pairs.ensures c.in_ok-pairs.was in
    pairs_long a.s.now a.from a.own.now c.requires.0 c.requires.1 a.table a.count r.good c.in_ok-pairs.pairs r.is

pub slice_bounds-has_equal_keys-end : goal.slice_bounds-has_equal_keys-end
slice_bounds-has_equal_keys-end c =
    let a = c.args in
    let r = was_some _ _ _ c.in_ok-pairs.pairs c.read_pairs.ensures c.in_ok-pairs.was in
    sym (length-take-le a.count c.in_ok-pairs.pairs (pairs_long a.s.now a.from a.own.now c.requires.0 c.requires.1 a.table a.count r.good c.in_ok-pairs.pairs r.is))

pub returns-then-has_equal_keys : goal.returns-then-has_equal_keys
returns-then-has_equal_keys c =
    let a = c.args in
    let r = was_some _ _ _ c.in_ok-pairs.pairs c.read_pairs.ensures c.in_ok-pairs.was in
    none_is _ _ (sym (strings_keys a.s.now a.from a.own.now c.requires.0 c.requires.1 a.table a.count r.good (sym c.bad_table.ensures ∙ c.if-bad_table.false) c.in_ok-pairs.pairs r.is) ∙ sym c.has_equal_keys.ensures ∙ c.if-has_equal_keys.true)

pub returns : goal.returns
returns c =
    let a = c.args in
    let r = was_some _ _ _ c.in_ok-pairs.pairs c.read_pairs.ensures c.in_ok-pairs.was in
    some_is _ _ (sym (strings_keys a.s.now a.from a.own.now c.requires.0 c.requires.1 a.table a.count r.good (sym c.bad_table.ensures ∙ c.if-bad_table.false) c.in_ok-pairs.pairs r.is) ∙ sym c.has_equal_keys.ensures ∙ c.if-has_equal_keys.false) _ r.is
