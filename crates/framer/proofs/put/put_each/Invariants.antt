-- What is left, put down from here, gives the whole.
use Rattle.std.proofs.Common.{◌≡◌, ◌+◌, length, drop}
use lib.Seq.{sets}
use Rattle.framing.specs.Writing.{escaped}
use Rattle.escapes.specs.Escapes.{writing_of}
use Rattle.framer.proofs.put.put_each.Given as goal

abbrev pub invariant-loop-x : goal.invariant-loop-x
invariant-loop-x l =
    let whole = escaped (writing_of l.e) l.octets in
    let left = escaped (writing_of l.e) (drop l.x-index l.octets) in
    (length l.out ≡ length l.initial.out) × (l.to + length left ≡ l.at + length whole) × (sets l.out l.to left ≡ sets l.initial.out l.at whole)
