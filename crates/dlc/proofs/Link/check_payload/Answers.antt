-- `Link::check_payload`: a full queue, which is seen as it counts. Assumes nothing.
use Rattle.std.proofs.Common.{◌≡◌, ◌≤◌, arith, refl, sym, ◌∙◌, length}
use Rattle.dlc_queue.specs.Queue.{slots}
use Rattle.dlc_table.specs.Answers.{done}
use Rattle.dlc_table.proofs.Refusals.{call_ok, payload_full}
use Rattle.dlc.specs.View.{view}
use Rattle.dlc.proofs.Parts.{length-queue}
use Rattle.dlc.proofs.Link.check_payload.Goals as goal

pub returns-then-len-ge-SLOTS : goal.returns-then-len-ge-SLOTS
returns-then-len-ge-SLOTS c =
    let l = c.args.self in
    let long : length l.queue.slots ≡ slots = omega arith in
    let waiting : length (view l).queue ≡ c.len.result = length-queue l long (call_ok slots (view l) c.args.room done c.in_ok-check.ensures refl) ∙ sym c.len.ensures in
    let full : slots ≤ length (view l).queue = rw waiting c.if-len-ge-SLOTS.true in
    payload_full slots (view l) c.args.p.now c.args.room c.in_ok-check.ensures c.if-p-gt-MAX_PAYLOAD.false (sym c.is_open.ensures ∙ c.if-not-is_open.false) full
