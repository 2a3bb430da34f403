-- `send`: the queue where it can be sent, and else nothing. Assumes nothing.
use Rattle.std.proofs.Common.{sym, ◌∙◌, arith}
use Rattle.std.proofs.lemmas.List.{length-take}
use Rattle.dlc_send.proofs.Sending.{unsent, sent_written, sendable_parts}
use Rattle.dlc_send.proofs.send.Goals as goal

pub returns-then-not-sendable : goal.returns-then-not-sendable
returns-then-not-sendable c = unsent c.args.q c.args.base c.args.reply.now (sym c.sendable.ensures ∙ c.if-not-sendable.true)

pub send_payloads-requires : goal.send_payloads-requires
send_payloads-requires c =
    let g = sendable_parts c.args.q c.args.base c.args.reply.now (sym c.sendable.ensures ∙ c.if-not-sendable.false) in
    (omega (arith, g.0, length-take c.args.q.count c.args.q.slots), g.1)

pub shared_ref_as_front-send_payloads : goal.shared_ref_as_front-send_payloads
shared_ref_as_front-send_payloads c =
    (sendable_parts c.args.q c.args.base c.args.reply.now (sym c.sendable.ensures ∙ c.if-not-sendable.false)).0

pub returns : goal.returns
returns c = sent_written c.args.q c.args.base c.args.reply.now (sym c.sendable.ensures ∙ c.if-not-sendable.false) _ _ c.send_payloads.ensures
