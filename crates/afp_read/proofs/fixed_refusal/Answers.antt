-- `afp_read::fixed_refusal`: one law for each answer.
use Rattle.std.proofs.Common.{arith}
use Rattle.afp_read.proofs.Refusals.{fixed_version, fixed_protocol, fixed_offset}
use Rattle.afp_read.proofs.fixed_refusal.Goals as goal

pub returns-then-frame-ne-VERSION : goal.returns-then-frame-ne-VERSION
returns-then-frame-ne-VERSION c = fixed_version c.args.frame.now c.if-frame-ne-VERSION.true

pub returns-then-frame-ge-FIRST_RESERVED : goal.returns-then-frame-ge-FIRST_RESERVED
returns-then-frame-ge-FIRST_RESERVED c = fixed_protocol c.args.frame.now c.if-frame-ne-VERSION.false (omega arith)

pub returns : goal.returns
returns c = fixed_offset c.args.frame.now c.if-frame-ne-VERSION.false (omega arith) _ c.offset_refusal.ensures
