-- `Link::timer`: the shared refusals, and then the row of the table by the state. Assumes nothing.
use Rattle.std.proofs.Common.{refl, ◌∙◌, length}
use Rattle.dlc_packet.specs.Packet.{reset_packet}
use Rattle.dlc_queue.specs.Queue.{slots}
use Rattle.dlc_table.specs.Answers.{done, no_entry}
use Rattle.dlc_table.specs.Refused.{number_of}
use Rattle.dlc_table.specs.declared.State.TheVariants.{Reset}
use Rattle.dlc.specs.View.{view}
use Rattle.dlc_table.specs.Events.{timer_step}
use Rattle.dlc_table.proofs.Refusals.{refusal_not_done, timer_refused, timer_step_lem}
use Rattle.dlc_table.proofs.Rows.{timer_none}
use Rattle.dlc.proofs.Outcomes.{refused_meets, one_meets, meets_by}
use Rattle.dlc.proofs.Link.timer.Goals as goal

pub returns-in-Err : goal.returns-in-Err
returns-in-Err c =
    let r = c.in-Err.refusal in
    refused_meets _ _ (number_of r) _ _ (timer_refused slots (view c.args.self) (length c.args.reply.now) (number_of r) c.in-Err.ensures (refusal_not_done r)) c.refused.ensures

pub returns-in-Idle : goal.returns-in-Idle
returns-in-Idle c =
    let l = c.args.self in
    refused_meets _ _ no_entry _ _ (timer_step_lem slots (view l) (length c.args.reply.now) done c.in_default.ensures refl _ refl ∙ timer_none (view l) l.state c.in-Idle.is) c.refused-in-Idle.ensures

pub returns-in-Reset : goal.returns-in-Reset
returns-in-Reset c =
    let l = c.args.self in
    meets_by (timer_step_lem slots (view l) (length c.args.reply.now) done c.in_default.ensures refl _ c.in-Reset.is)
    (one_meets (timer_step (view l) Reset) l l reset_packet _ _ _ refl refl refl (rw c.silent.ensures at c.send_control.ensures))

pub returns-in-Wait : goal.returns-in-Wait
returns-in-Wait c = meets_by (timer_step_lem slots (view c.args.self) (length c.args.reply.now) done c.in_default.ensures refl _ c.in-Wait.is) c.send_all.ensures
