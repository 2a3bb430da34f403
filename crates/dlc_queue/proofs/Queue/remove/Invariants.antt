-- `Queue::remove`: the slots passed so far hold the payloads behind the n oldest. Assumes nothing.
use Rattle.std.proofs.Common.{◌≡◌, length, take, drop}
use Rattle.dlc_queue.specs.Queue.{slots}
use Rattle.dlc_queue.proofs.Queue.remove.Given as goal

abbrev pub invariant-loop-i : goal.invariant-loop-i
invariant-loop-i l = (length l.self.slots ≡ slots) × (take l.i l.self.slots ≡ take l.i (drop l.n l.before))
