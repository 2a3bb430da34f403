-- `Link::payload`: the refusals in order, and then the queue. Assumes nothing.
use Rattle.std.proofs.Common.{length}
use Rattle.dlc_queue.specs.Queue.{slots}
use Rattle.dlc_table.specs.Refused.{number_of}
use Rattle.dlc_table.proofs.Refusals.{refusal_not_done, payload_stopped, payload_passed}
use Rattle.dlc.specs.View.{view}
use Rattle.dlc.proofs.Outcomes.{refused_meets, meets_by}
use Rattle.dlc.proofs.Link.payload.Goals as goal

pub returns-in-Err : goal.returns-in-Err
returns-in-Err c =
    let r = c.in-Err.refusal in
    refused_meets _ _ (number_of r) _ _ (payload_stopped slots (view c.args.self) c.args.p.now (length c.args.reply.now) (number_of r) c.in-Err.ensures (refusal_not_done r)) c.refused.ensures

pub returns : goal.returns
returns c = meets_by (payload_passed slots (view c.args.self) c.args.p.now (length c.args.reply.now) c.in_default.ensures) c.queue.ensures
