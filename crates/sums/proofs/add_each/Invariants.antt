-- `sums::add_each` meets its contract. The invariant: the sum so far, with the octets that are left, is the whole sum.
use Rattle.std.proofs.Common.{◌≡◌, drop}
use Rattle.sums.specs.Sum.{sum_from}
use Rattle.sums.proofs.add_each.Given as goal

abbrev pub invariant-loop-x : goal.invariant-loop-x
invariant-loop-x l = sum_from l.sum (drop l.x-index l.octets) ≡ sum_from l.start l.octets
