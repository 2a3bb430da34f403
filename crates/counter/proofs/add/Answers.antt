-- `counter::add` meets its contract: the three cases, each tested without a sum that could overflow. Assumes nothing.
use Rattle.std.proofs.Common.{sym, arith}
use Rattle.counter.proofs.Counting.{counted_stays, counted_stops, counted_goes}
use Rattle.counter.proofs.add.Goals as goal

pub returns-then-most-n : goal.returns-then-most-n
returns-then-most-n c = sym (counted_stays _ _ _ (omega (arith, c.if-most-n.true)))

pub returns-then-most-n-2 : goal.returns-then-most-n-2
returns-then-most-n-2 c = sym (counted_stops _ _ _ (omega (arith, c.if-most-n.false)) (omega (arith, c.if-most-n.false, c.if-most-n-2.true)))

pub returns : goal.returns
returns c = sym (counted_goes _ _ _ (omega (arith, c.if-most-n.false, c.if-most-n-2.false)))
