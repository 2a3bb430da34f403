-- The register so far, with the octets that are left, gives the register after all.
use Rattle.std.proofs.Common.{◌≡◌, drop}
use Rattle.fcs.specs.Fcs.{feed_all}
use Rattle.fcs.proofs.feed_octets.Given as goal

abbrev pub invariant-loop-x : goal.invariant-loop-x
invariant-loop-x l = feed_all l.c (drop l.x-index l.octets) ≡ feed_all l.register l.octets
