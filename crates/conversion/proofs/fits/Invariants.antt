-- `conversion::fits` meets its contract. The loop's invariant: whether what is left has room in what is left of the room is what is asked. Assumes nothing.
use Rattle.std.proofs.Common.{◌-◌, ◌≤◌, ◌≡◌, leb, length, drop}
use Rattle.conversion.proofs.Turns.{rest_text, Ready}
use Rattle.conversion_laws.specs.Frames.{conversion_of}
use Rattle.qaft.specs.Limits.{max_segment}
use Rattle.conversion.proofs.fits.Given as goal

abbrev pub invariant-loop-i : goal.invariant-loop-i
invariant-loop-i l =
    (l.i ≤ length l.capture)
    × (length l.buffer ≡ max_segment)
    × (length l.scratch ≡ 8192)
    × Ready l.c l.buffer
    × (leb (length (rest_text l.c (drop l.i l.capture) l.buffer)) l.left ≡ leb (length (conversion_of l.to_kiss l.level l.capture)) l.room)

abbrev pub decreases-loop-i : goal.decreases-loop-i
decreases-loop-i l = length l.capture - l.i
