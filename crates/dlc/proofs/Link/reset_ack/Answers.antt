-- `Link::reset_ack`: a row of the table. Assumes nothing.
use Rattle.std.proofs.Common.{ap, ◌∙◌}
use Rattle.dlc_table.specs.declared.State.{State}
use Rattle.dlc_table.specs.declared.State.TheVariants.{Data}
use Rattle.dlc.specs.View.{view}
use Rattle.dlc_table.specs.Model.{in_state}
use Rattle.dlc_table.specs.Events.{reset_ack_step}
use Rattle.dlc.proofs.Parts.{parts, reset_fits}
use Rattle.dlc.proofs.Views.{view-in_state}
use Rattle.dlc.proofs.Outcomes.{done_returns}
use Rattle.dlc.proofs.Link.reset_ack.Goals as goal

pub returns-in-Reset : goal.returns-in-Reset
returns-in-Reset c =
    let l = c.args.self in
    let e = c.in-Reset.is in
    let v = ap view c.in_state.ensures ∙ view-in_state l c.requires Data (reset_fits l e (parts l c.requires).state) in
    done_returns _ l c.in_state.result (in_state Data (view l)) _ (ap (λ (s : State). reset_ack_step (view l) s) e) v c.done.ensures
