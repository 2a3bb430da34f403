-- `afp_read::envelope_refusal`: the length is judged first, and then the check sequence.
use Rattle.std.proofs.Common.{◌∙◌, ◌≡◌, ℕ, ◌≤◌, List, length, sym, ◌∙◌}
use Rattle.common.specs.FirstRefusal.{first_refusal}
use Rattle.common.proofs.FirstRefusal.{first_passed}
use Rattle.afp.specs.Limits.{min_frame, max_frame}
use Rattle.afp.specs.Sizes.{length_refusals}
use Rattle.afp.proofs.Sizes.{length-passed}
use Rattle.afp_read.proofs.Refusals.{envelope-length, envelope_check, envelope_done}
use Rattle.afp.specs.Refused.{number_of}
use Rattle.afp.proofs.Refused.{refusal_numbered, handed_on}
use Rattle.afp_read.proofs.envelope_refusal.Goals as goal

-- the length of a frame that is not refused for it
fits : (f : List ℕ) → 0 ≡ first_refusal (length_refusals (length f)) → (min_frame ≤ length f) × (length f ≤ max_frame)
fits f e = length-passed (length f) (first_passed (length_refusals (length f)) tt (sym e))

pub returns-in_err-length_refusal : goal.returns-in_err-length_refusal
returns-in_err-length_refusal c =
    let e = c.in_err-length_refusal.field-0.0 in
    handed_on c.from_residual.result e c.from_residual.ensures.1 ∙ envelope-length c.args.frame.now (number_of e) c.in_err-length_refusal.ensures (refusal_numbered e)

pub returns-then-received-check : goal.returns-then-received-check
returns-then-received-check c =
    let l = fits c.args.frame.now c.in_ok-length_refusal.ensures in
    envelope_check c.args.frame.now l.0 l.1 c.from_le_bytes-received.result c.check_sequence-check.result
    c.from_le_bytes-received.ensures c.check_sequence-check.ensures c.if-received-check.true

pub returns : goal.returns
returns c =
    let l = fits c.args.frame.now c.in_ok-length_refusal.ensures in
    envelope_done c.args.frame.now l.0 l.1 c.from_le_bytes-received.result c.check_sequence-check.result
    c.from_le_bytes-received.ensures c.check_sequence-check.ensures c.if-received-check.false
