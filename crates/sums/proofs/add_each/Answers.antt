-- `sums::add_each`: one octet more, and nothing left.
use Rattle.std.proofs.Common.{arith}
use Rattle.sums.proofs.Sum.{sum_drop, sum_done}
use Rattle.sums.proofs.add_each.Goals as goal

pub loop-x-preserved : goal.loop-x-preserved
loop-x-preserved c = cc (sum_drop c.loop-x.sum c.args.octets.now c.loop-x.x-index (omega arith))

pub returns : goal.returns
returns c = cc (sum_done c.loop-x.sum c.args.octets.now c.loop-x.x-index (omega arith))
