-- `octets::sum`: the total so far and what is left give the whole sum, modulo 256. Assumes nothing.
use Rattle.std.proofs.Common.{◌≡◌, ◌+◌, ◌%◌, drop}
use Rattle.octets.specs.Sum.{sum}
use Rattle.octets.proofs.sum.Given as goal

abbrev pub invariant-loop-x : goal.invariant-loop-x
invariant-loop-x l = (l.total + sum (drop l.x-index l.octets)) % 256 ≡ sum l.octets % 256
