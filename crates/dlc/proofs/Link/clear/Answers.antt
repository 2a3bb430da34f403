-- `Link::clear`: the link as RESET leaves it, and RESET_ACK. Assumes nothing.
use Rattle.std.proofs.Common.{refl, ap, ◌∙◌}
use Rattle.dlc_packet.specs.Packet.{reset_ack_packet}
use Rattle.dlc_table.specs.declared.State.TheVariants.{Data}
use Rattle.dlc_table.specs.Events.{cleared}
use Rattle.dlc_queue.specs.declared.Queue.{Queue}
use Rattle.dlc.specs.View.{view, relinked}
use Rattle.dlc.proofs.Views.{view_cleared}
use Rattle.dlc.proofs.Outcomes.{one_meets}
use Rattle.dlc.proofs.Link.clear.Goals as goal

pub returns : goal.returns
returns c =
    let l = c.args.self in
    one_meets (cleared (view l)) l (relinked l Data c.emptied.result 0 0) reset_ack_packet _ _ _ refl refl
    (ap (λ (q : Queue). view (relinked l Data q 0 0)) c.emptied.ensures ∙ view_cleared l c.requires.0)
    (rw c.silent.ensures at c.send_control.ensures)
