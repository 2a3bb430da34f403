-- `capture::flags_in_part` meets its contract: those before an octet, and those from there on. Assumes nothing.
use Rattle.std.proofs.Common.{arith}
use Rattle.capture.proofs.Flags.{flags_end, flags_turn}
use Rattle.capture.proofs.flags_in_part.Goals as goal

pub loop-x-preserved : goal.loop-x-preserved
loop-x-preserved c =
    let turn = flags_turn c.args.flag c.args.part.now c.loop-x.x-index (omega (arith, c.loop-x-test.true)) c.loop-x.n c.from-n.result c.from-n.ensures c.loop-x.invariant.1 in
    (omega (arith, turn.0), turn.1)

pub returns : goal.returns
returns c = let at = c.loop-x in omega (arith, at.invariant.1, flags_end c.args.flag c.args.part.now at.x-index (omega (arith, c.loop-x-test.false)))
