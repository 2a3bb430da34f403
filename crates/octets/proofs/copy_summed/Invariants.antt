-- `copy_summed`: what is left, put down from here and added to the total so far, gives the whole. Assumes nothing.
use Rattle.std.proofs.Common.{◌≡◌, ◌+◌, ◌%◌, drop}
use lib.Seq.{sets}
use Rattle.octets.specs.Sum.{sum}
use Rattle.octets.proofs.copy_summed.Given as goal

abbrev pub invariant-loop-i : goal.invariant-loop-i
invariant-loop-i l =
    (sets l.out l.i (drop l.i l.octets) ≡ sets l.initial.out 0 l.octets)
    × ((l.so_far + sum (drop l.i l.octets)) % 256 ≡ sum l.octets % 256)
