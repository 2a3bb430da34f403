-- `sheet_octets::skipped_in` meets its contract: flow control of both kinds at level 1, none at level 0. Assumes nothing.
use Rattle.std.proofs.Common.{arith}
use Rattle.sheet_octets.proofs.Skipping.{skipped_some, skipped_none, skipped_within}
use Rattle.sheet_octets.proofs.skipped_in.Goals as goal

pub returns-then-level-eq1 : goal.returns-then-level-eq1
returns-then-level-eq1 c = skipped_some _ _ c.if-level-eq1.true _ _ c.flags_in.ensures c.flags_in-then-level-eq1.ensures

pub overflow_add-result : goal.overflow_add-result
overflow_add-result c =
    let a = c.args in
    let both = skipped_some _ _ c.if-level-eq1.true _ _ c.flags_in.ensures c.flags_in-then-level-eq1.ensures in
    omega (arith, both, skipped_within a.level a.chunk.now, c.well_formed.1.0)

pub returns : goal.returns
returns c = skipped_none _ c.if-level-eq1.false _
