-- `capture::parts_of` meets its contract: a chunk without a flag, and one with flags. Assumes nothing.
use Rattle.std.proofs.Common.{◌+◌, ◌≤◌, arith, length}
use Rattle.capture.proofs.Counting.{parts_none, parts_within, parts_some}
use Rattle.capture.proofs.parts_of.Goals as goal

pub returns-then-flags-eq0 : goal.returns-then-flags-eq0
returns-then-flags-eq0 c = parts_none _ _ _ c.flags_in-flags.ensures c.if-flags-eq0.true

pub overflow_sub-between : goal.overflow_sub-between
overflow_sub-between c =
    let within : c.flags_in-flags.result + c.octets_before-before.result + c.octets_after-after.result ≤ length c.args.chunk.now = (parts_within _ _ _ c.flags_in-flags.ensures _ _ c.octets_before-before.ensures c.octets_after-after.ensures) in
    omega (arith, within)

pub overflow_sub-between-2 : goal.overflow_sub-between-2
overflow_sub-between-2 c =
    let within : c.flags_in-flags.result + c.octets_before-before.result + c.octets_after-after.result ≤ length c.args.chunk.now = (parts_within _ _ _ c.flags_in-flags.ensures _ _ c.octets_before-before.ensures c.octets_after-after.ensures) in
    omega (arith, within)

pub overflow_sub-between-3 : goal.overflow_sub-between-3
overflow_sub-between-3 c =
    let within : c.flags_in-flags.result + c.octets_before-before.result + c.octets_after-after.result ≤ length c.args.chunk.now = (parts_within _ _ _ c.flags_in-flags.ensures _ _ c.octets_before-before.ensures c.octets_after-after.ensures) in
    omega (arith, within)

pub returns : goal.returns
returns c = parts_some _ _ _ c.flags_in-flags.ensures _ _ c.octets_before-before.ensures c.octets_after-after.ensures
