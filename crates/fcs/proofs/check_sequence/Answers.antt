-- `fcs::check_sequence`: the complement of the register.
use Rattle.std.proofs.Common.{arith}
use Rattle.fcs.proofs.Register.{feed_complement}
use Rattle.fcs.proofs.check_sequence.Goals as goal

pub returns : goal.returns
returns c = omega (arith, feed_complement _ _ c.feed.ensures)
