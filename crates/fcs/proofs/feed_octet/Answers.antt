-- `fcs::feed_octet`: the division of an octet.
use Rattle.std.proofs.Common.{arith}
use Rattle.fcs.proofs.Words.{octet_shift, octet_fed}
use Rattle.fcs.proofs.feed_octet.Goals as goal

pub returns : goal.returns
unfolding octet_shift
returns c = rw c.from.ensures (octet_fed c.args.register c.args.x (omega arith) (omega arith))
