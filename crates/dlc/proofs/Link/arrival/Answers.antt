-- `Link::arrival`: the shared refusals, and then the row of the table by the packet's kind. Assumes nothing.
use Rattle.std.proofs.Common.{refl, sym, length}
use Rattle.dlc_queue.specs.Queue.{slots}
use Rattle.dlc_table.specs.Answers.{done, bad_packet}
use Rattle.dlc_table.specs.Refused.{number_of}
use Rattle.dlc.specs.View.{view}
use Rattle.dlc_table.proofs.Refusals.{refusal_not_done, arrival_refused, arrival_step}
use Rattle.dlc_table.proofs.Rows.{reset_ack_silent, dack_silent}
use Rattle.dlc.proofs.Outcomes.{refused_meets, meets_by, silent_meets}
use Rattle.dlc.proofs.Link.arrival.Goals as goal

pub returns-in-Err : goal.returns-in-Err
returns-in-Err c =
    let r = c.in-Err.refusal in
    refused_meets _ _ (number_of r) _ _ (arrival_refused slots (view c.args.self) (length c.args.reply.now) (number_of r) c.in-Err.ensures (refusal_not_done r) c.args.packet.now) c.refused.ensures

pub returns-in-Invalid : goal.returns-in-Invalid
returns-in-Invalid c = refused_meets _ _ bad_packet _ _ (arrival_step slots (view c.args.self) (length c.args.reply.now) done c.in_default.ensures refl c.args.packet.now _ (sym c.in-Invalid.ensures)) c.refused-in-Invalid.ensures

pub returns-in-Reset : goal.returns-in-Reset
returns-in-Reset c = meets_by (arrival_step slots (view c.args.self) (length c.args.reply.now) done c.in_default.ensures refl c.args.packet.now _ (sym c.in-Reset.ensures)) c.clear.ensures

pub returns-in-ResetAck : goal.returns-in-ResetAck
returns-in-ResetAck c =
    let l = c.args.self in
    meets_by (arrival_step slots (view l) (length c.args.reply.now) done c.in_default.ensures refl c.args.packet.now _ (sym c.in-ResetAck.ensures))
    (silent_meets (reset_ack_silent (view l) l.state) c.reset_ack.ensures)

pub returns-in-Data : goal.returns-in-Data
returns-in-Data c = meets_by (arrival_step slots (view c.args.self) (length c.args.reply.now) done c.in_default.ensures refl c.args.packet.now _ (sym c.in-Data.ensures)) c.«data».ensures

pub returns-in-Dack : goal.returns-in-Dack
returns-in-Dack c =
    let l = c.args.self in
    meets_by (arrival_step slots (view l) (length c.args.reply.now) done c.in_default.ensures refl c.args.packet.now _ (sym c.in-Dack.ensures))
    (silent_meets (dack_silent (view l) l.state _) c.dack.ensures)
