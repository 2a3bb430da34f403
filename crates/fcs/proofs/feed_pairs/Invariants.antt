-- The register so far, with the octets that are left, gives the register after all.
use Rattle.std.proofs.Common.{◌≡◌, ◌%◌, length}
use Rattle.fcs.specs.Fcs.{feed_all}
use Rattle.fcs.proofs.feed_pairs.Given as goal

abbrev pub invariant-loop-pair : goal.invariant-loop-pair
invariant-loop-pair l =
    let it = l.pair-iterator in
    (it.size ≡ 2) × (length it.rest.now % 2 ≡ 0) × (feed_all l.c it.rest.now ≡ feed_all l.register l.octets)
