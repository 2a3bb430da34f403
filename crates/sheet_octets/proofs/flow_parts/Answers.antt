-- `sheet_octets::flow_parts` meets its contract: before the first flag, after the last, and what is left of all. Assumes nothing.
use Rattle.std.proofs.Common.{◌+◌, ◌≤◌, sym, arith, length-take-le}
use Rattle.sheet_octets.proofs.Skipping.{before_within, after_within, skipped_apart, flow_parts_are}
use Rattle.sheet_octets.proofs.flow_parts.Goals as goal

pub slice_bounds-skipped_in-end : goal.slice_bounds-skipped_in-end
slice_bounds-skipped_in-end c = let a = c.args in sym (length-take-le _ a.chunk.now (before_within a.level a.chunk.now a.all c.requires))

pub overflow_sub-chunk : goal.overflow_sub-chunk
overflow_sub-chunk c = let k = c in after_within k.args.level k.args.chunk.now k.args.all k.requires

pub overflow_sub-between : goal.overflow_sub-between
overflow_sub-between c =
    let within : c.skipped_in-before.result + c.skipped_in-after.result ≤ c.skipped_in.result = (let k = c in
    skipped_apart k.args.level k.args.chunk.now k.args.all k.requires _ _ _ c.skipped_in-before.ensures c.skipped_in-after.ensures c.skipped_in.ensures) in
    omega (arith, within)

pub overflow_sub-between-2 : goal.overflow_sub-between-2
overflow_sub-between-2 c =
    let within : c.skipped_in-before.result + c.skipped_in-after.result ≤ c.skipped_in.result = (let k = c in
    skipped_apart k.args.level k.args.chunk.now k.args.all k.requires _ _ _ c.skipped_in-before.ensures c.skipped_in-after.ensures c.skipped_in.ensures) in
    omega (arith, within)

pub returns : goal.returns
returns c =
    let k = c in
    flow_parts_are k.args.level k.args.chunk.now k.args.all k.requires _ _ _ c.skipped_in-before.ensures c.skipped_in-after.ensures c.skipped_in.ensures
