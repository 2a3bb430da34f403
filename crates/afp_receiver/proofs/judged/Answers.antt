-- `afp_receiver::judged`: one law for each answer, once length and data offset are not refused.
use Rattle.std.proofs.Common.{◌∙◌, arith}
use Rattle.afp_receiver.proofs.Answers.{length-refused, offset_refused, broadcast-wrong, broadcast-right, place-low, place-high, place-within, told_on}
use Rattle.afp.specs.Refused.{number_of}
use Rattle.afp.proofs.Refused.{refusal_numbered}
use Rattle.afp_receiver.proofs.judged.Goals as goal

pub returns-in_err-length_refusal : goal.returns-in_err-length_refusal
returns-in_err-length_refusal c =
    let e = c.in_err-length_refusal.field-0.0 in
    told_on c.from_residual.result e c.from_residual.ensures.1
    ∙ length-refused c.args.frame.now (number_of e) c.in_err-length_refusal.ensures (refusal_numbered e)

pub returns-in_err-offset_refusal : goal.returns-in_err-offset_refusal
returns-in_err-offset_refusal c =
    let e = c.in_err-offset_refusal.field-0.0 in
    told_on c.from_residual-in_err-offset_refusal.result e c.from_residual-in_err-offset_refusal.ensures.1
    ∙ offset_refused c.args.frame.now c.in_ok-length_refusal.ensures (number_of e) c.in_err-offset_refusal.ensures (refusal_numbered e)

pub returns-then-frame : goal.returns-then-frame
returns-then-frame c =
    broadcast-wrong c.args.frame.now c.in_ok-length_refusal.ensures c.in_ok-offset_refusal.ensures
    (omega arith) c.if-frame.true

pub returns-then-place-eq0 : goal.returns-then-place-eq0
returns-then-place-eq0 c =
    broadcast-right c.args.frame.now c.in_ok-length_refusal.ensures c.in_ok-offset_refusal.ensures
    (omega arith) c.if-frame.false

pub returns-then-place-lt-FIRST_NEXT : goal.returns-then-place-lt-FIRST_NEXT
returns-then-place-lt-FIRST_NEXT c =
    place-low c.args.frame.now c.in_ok-length_refusal.ensures c.in_ok-offset_refusal.ensures
    (λ z. omega arith) (omega arith)

pub returns-then-from-place : goal.returns-then-from-place
returns-then-from-place c =
    place-high c.args.frame.now c.in_ok-length_refusal.ensures c.in_ok-offset_refusal.ensures
    (λ z. omega arith) (omega arith)

pub returns : goal.returns
returns c =
    c.station_at.ensures ∙ place-within c.args.frame.now c.in_ok-length_refusal.ensures
    c.in_ok-offset_refusal.ensures (λ z. omega arith) (omega arith) (omega arith)
