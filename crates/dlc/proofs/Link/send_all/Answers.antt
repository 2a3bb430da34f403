-- `Link::send_all`: what `send` writes is what the table says. Assumes nothing.
use Rattle.std.proofs.Common.{◌≡◌, arith, length}
use Rattle.dlc_queue.specs.Queue.{slots}
use Rattle.dlc.proofs.Parts.{length-queue}
use Rattle.dlc.proofs.Outcomes.{all_meets}
use Rattle.dlc.proofs.Link.send_all.Goals as goal

pub returns : goal.returns
returns c =
    let l = c.args.self in
    let long : length l.queue.slots ≡ slots = omega arith in
    rw (c.len.ensures, c.silent.ensures) (all_meets l c.args.reply.now _ c.send-lengths.result c.requires.0 (length-queue l long c.requires.0) c.requires.1 c.send-lengths.ensures)
