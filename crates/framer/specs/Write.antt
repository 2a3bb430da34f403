-- One frame at the front of a lent buffer, whole or not at all. Cited by the contract of the frame writer. Assumes nothing.
--
--   framed e at_flag head xs tail   the frame: octets with what comes before and behind them
--   framed_by e f                   the same, of what the writer is given
--   written_length ys m             how many of the octets ys are then written into the buffer m
--   written_into ys m               the buffer after it
use Rattle.std.specs.Prelude.{ℕ, Bool, cond, List, ◌++◌, length, nat_le}
use Rattle.common.specs.Buffer.{with_front}
use Rattle.escapes.specs.Escapes.{writing_of}
use Rattle.escapes.specs.declared.Escapes.{Escapes}
use Rattle.framer.specs.declared.Frame.{Frame}
use Rattle.framing.specs.Writing.{frame}

abbrev pub framed : Escapes → (at_flag : Bool) (head xs tail : List ℕ) → List ℕ
framed e at_flag head xs tail = frame (writing_of e) at_flag (head ++ (xs ++ tail))

abbrev pub framed_by : Escapes → Frame → List ℕ
framed_by e f = framed e f.at_flag f.head.now f.octets.now f.tail.now

-- all, or 0 where the buffer has no room for them
unfoldable pub written_length : (ys m : List ℕ) → ℕ
written_length ys m = cond (nat_le (length ys) (length m)) (length ys) 0

-- it begins with them, or is as before
unfoldable pub written_into : (ys m : List ℕ) → List ℕ
written_into ys m = cond (nat_le (length ys) (length m)) (with_front ys m) m
