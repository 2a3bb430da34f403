-- `Link::queue`: the link with the payload queued, and the payload sent with its number. Assumes nothing.
use Rattle.std.proofs.Common.{ℕ, ◌≡◌, refl, sym, ap, ◌∙◌, [], ◌∷◌, length, arith}
use Rattle.dlc_packet.specs.Packet.{data_packet}
use Rattle.dlc_table.specs.Events.{next_number, queued}
use Rattle.dlc_queue.specs.Queue.{slots}
use Rattle.dlc.specs.View.{view}
use Rattle.dlc.proofs.Parts.{length-queue}
use Rattle.dlc.proofs.Outcomes.{one_meets}
use Rattle.dlc.proofs.Link.queue.Goals as goal

pub returns : goal.returns
returns c =
    let l = c.args.self in
    let p = c.args.p.now in
    let long : length l.queue.slots ≡ slots = omega arith in
    let n : c.len.result ≡ length (view l).queue = c.len.ensures ∙ sym (length-queue l long c.requires.0) in
    let next : c.advanced-x.result ≡ next_number (view l) = omega (arith, c.advanced-x.ensures, n) in
    one_meets (queued (view l) p) l c.with_payload.result (data_packet c.advanced-x.result p) _ _ _ refl
    (ap (λ (x : ℕ). data_packet x p ∷ []) (sym next)) c.with_payload.ensures (rw c.silent.ensures at c.send_one.ensures)
