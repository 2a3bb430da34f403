-- The register so far, with the octets that are left, gives the register after all.
use Rattle.std.proofs.Common.{◌≡◌, ◌%◌, length}
use Rattle.fcs.specs.Fcs.{feed_all}
use Rattle.fcs.proofs.feed_eights.Given as goal

abbrev pub invariant-loop-eight : goal.invariant-loop-eight
invariant-loop-eight l =
    let it = l.eight-iterator in
    (it.size ≡ 8) × (length it.rest.now % 8 ≡ 0) × (feed_all l.c it.rest.now ≡ feed_all l.register l.octets)
