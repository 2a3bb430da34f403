-- `octets::sum` meets its contract. Assumes nothing.
use Rattle.std.proofs.Common.{arith}
use Rattle.octets.proofs.Summing.{sum_end, sum_next}
use Rattle.octets.proofs.sum.Goals as goal

pub loop-x-preserved : goal.loop-x-preserved
loop-x-preserved c = let l = c.loop-x in omega (arith, sum_next c.args.octets.now l.x-index c.loop-x-test.true)

pub returns : goal.returns
returns c = omega (arith, sum_end c.args.octets.now c.loop-x.x-index c.loop-x-test.false)
