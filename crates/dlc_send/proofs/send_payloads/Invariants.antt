-- `send_payloads`: what is left of the queue, written behind what stands there, gives the whole. Assumes nothing.
use Rattle.std.proofs.Common.{map}
use Rattle.dlc_queue.specs.Queue.{octets_of}
use Rattle.dlc_send.proofs.Sending.{Sending}
use Rattle.dlc_send.proofs.send_payloads.Given as goal

abbrev pub invariant-loop-i : goal.invariant-loop-i
invariant-loop-i l = Sending (map octets_of l.payloads) l.base l.initial.out l.out l.lengths l.x l.at l.i
