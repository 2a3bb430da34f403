-- `converter::put_frames` meets its contract. The loop's invariant: what is left of the chunk gives what the whole gives, i octets on. Assumes nothing.
use Rattle.std.proofs.Common.{◌≡◌, ◌-◌, ◌≤◌, length, drop}
use Rattle.converter.proofs.Turns.{texts_at, onwards}
use Rattle.converter.specs.Convert.{gathered}
use Rattle.line.specs.Gather.{later}
use Rattle.converter.proofs.put_frames.Given as goal

abbrev pub invariant-loop-at : goal.invariant-loop-at
invariant-loop-at l =
    (l.i ≤ length l.chunk)
    × (length l.buffer ≡ length l.initial.buffer)
    × (length l.out ≡ length l.initial.out)
    × (gathered l.c l.chunk l.initial.buffer l.initial.out ≡ later l.i (onwards l.c l.state (drop l.i l.chunk) l.buffer (texts_at l.c l.tally l.out l.at)))

abbrev pub decreases-loop-at : goal.decreases-loop-at
decreases-loop-at l = length l.chunk - l.i
