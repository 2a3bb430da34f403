-- The count so far and what is left give the whole.
use Rattle.std.proofs.Common.{◌≡◌, ◌+◌, ◌≤◌, length, drop}
use Rattle.escapes.specs.Escapes.{writing_of}
use Rattle.framing.specs.Writing.{escaped}
use Rattle.framer.proofs.room.escape_count.Given as goal

abbrev pub invariant-loop-x : goal.invariant-loop-x
invariant-loop-x l = (l.n ≤ l.x-index) × (l.x-index + l.n + length (escaped (writing_of l.e) (drop l.x-index l.octets)) ≡ length (escaped (writing_of l.e) l.octets))
