-- `PlainLink::timer`: a state that is none of the four. Assumes nothing.
use Rattle.std.proofs.Common.{length}
use Rattle.dlc_plain.proofs.Conversions.{timer_bad, refused}
use Rattle.dlc_plain.proofs.PlainLink.timer.Goals as goal

pub returns-in-Err : goal.returns-in-Err
returns-in-Err c =
    let l = c.args.self in
    let before = c.args.reply.now in
    let bad = c.in-Err.ensures in
    refused l bad.0 _ before _ (timer_bad l bad.0 (length before)) (rw bad.1 at c.refused.ensures)
