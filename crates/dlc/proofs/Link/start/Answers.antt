-- `Link::start`: the shared refusals, and then the row of the table by the state. Assumes nothing.
use Rattle.std.proofs.Common.{refl, ◌∙◌, length}
use Rattle.dlc_table.specs.Answers.{done, no_entry}
use Rattle.dlc_table.specs.Refused.{number_of}
use Rattle.dlc_table.specs.declared.State.TheVariants.{Reset}
use Rattle.dlc_queue.specs.Queue.{slots}
use Rattle.dlc.specs.View.{view}
use Rattle.dlc_table.specs.Model.{in_state}
use Rattle.dlc.proofs.Parts.{parts, idle_fits}
use Rattle.dlc.proofs.Views.{view-in_state}
use Rattle.dlc_table.proofs.Refusals.{refusal_not_done, call_ok, start_refused, start_step_lem}
use Rattle.dlc_table.proofs.Rows.{start_none}
use Rattle.dlc.proofs.Outcomes.{refused_meets, done_meets}
use Rattle.dlc.proofs.Link.start.Goals as goal

pub returns-in-Err : goal.returns-in-Err
returns-in-Err c =
    let r = c.in-Err.refusal in
    refused_meets _ _ (number_of r) _ _ (start_refused slots (view c.args.self) (length c.args.reply.now) (number_of r) c.in-Err.ensures (refusal_not_done r)) c.refused.ensures

pub returns-in-Idle : goal.returns-in-Idle
returns-in-Idle c =
    let l = c.args.self in
    let e = c.in-Idle.is in
    let room = length c.args.reply.now in
    let w = call_ok slots (view l) room done c.in_default.ensures refl in
    let v = view-in_state l w Reset (idle_fits l e (parts l w).state) in
    done_meets _ l _ (in_state Reset (view l)) _ _ (start_step_lem slots (view l) room done c.in_default.ensures refl _ e) v c.done.ensures

pub returns-in-Reset : goal.returns-in-Reset
returns-in-Reset c =
    let l = c.args.self in
    refused_meets _ _ no_entry _ _ (start_step_lem slots (view l) (length c.args.reply.now) done c.in_default.ensures refl _ refl ∙ start_none (view l) l.state c.in-Reset.is) c.refused-in-Reset.ensures
