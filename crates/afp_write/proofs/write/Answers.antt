-- `afp_write::write`: refused as `checked` says, or the frame.
use Rattle.std.proofs.Common.{sym, ◌∙◌}
use Rattle.afp.proofs.Refused.{refusal_numbered}
use Rattle.afp_write.proofs.Buffers.{length-frame, frame_of_lem}
use Rattle.afp_write.proofs.Refusals.{write_refused, write_done}
use Rattle.afp_write.proofs.write.Goals as goal

pub returns-in-Ok-clause-value : goal.returns-in-Ok-clause-value
returns-in-Ok-clause-value c =
    let a = c.args in
    let h = c.in-Ok.ensures in
    let q = c.put_frame in
    (write_done a.protocol a.fields.now a.next a.supplementary.now a.payload.now a.out.now h.first q.result q.new.out
    (q.ensures.0 ∙ sym (length-frame a.protocol a.fields.now a.next a.supplementary.now a.payload.now))
    (q.ensures.1 ∙ frame_of_lem a.protocol a.fields.now a.next a.supplementary.now a.payload.now a.out.now c.in-Ok.station h.fits.0)).0

pub returns-in-Ok-clause-out_after : goal.returns-in-Ok-clause-out_after
returns-in-Ok-clause-out_after c =
    let a = c.args in
    let h = c.in-Ok.ensures in
    let q = c.put_frame in
    (write_done a.protocol a.fields.now a.next a.supplementary.now a.payload.now a.out.now h.first q.result q.new.out
    (q.ensures.0 ∙ sym (length-frame a.protocol a.fields.now a.next a.supplementary.now a.payload.now))
    (q.ensures.1 ∙ frame_of_lem a.protocol a.fields.now a.next a.supplementary.now a.payload.now a.out.now c.in-Ok.station h.fits.0)).1

pub returns-in-Err-clause-value : goal.returns-in-Err-clause-value
returns-in-Err-clause-value c =
    let a = c.args in
    (write_refused a.protocol a.fields.now a.next a.supplementary.now a.payload.now a.out.now c.from.result (c.from.ensures ∙ c.in-Err.ensures.first)
    (λ z. refusal_numbered c.in-Err.refusal (sym c.from.ensures ∙ z))).0

pub returns-in-Err-clause-out_after : goal.returns-in-Err-clause-out_after
returns-in-Err-clause-out_after c =
    let a = c.args in
    (write_refused a.protocol a.fields.now a.next a.supplementary.now a.payload.now a.out.now c.from.result (c.from.ensures ∙ c.in-Err.ensures.first)
    (λ z. refusal_numbered c.in-Err.refusal (sym c.from.ensures ∙ z))).1
