-- `Link::send_one`: a control octet at the front of the buffer, and the payload behind it. Assumes nothing.
use Rattle.std.proofs.Common.{ℕ, ◌+◌, ◌≤◌, arith, ◌∙◌, List, ◌∷◌, length, set, length-set}
use Rattle.common.proofs.Buffer.{sets-front}
use Rattle.octets.proofs.Putting.{into_fits}
use Rattle.dlc.proofs.Outcomes.{one_given}
use Rattle.dlc.proofs.Link.send_one.Goals as goal

pub returns : goal.returns
returns c =
    let a = c.args.answer in
    let p : List ℕ = c.args.payload.now in
    let m : List ℕ = c.args.reply.now in
    let room : 1 + length p ≤ length (set m 0 c.args.control) = omega (arith, length-set m 0 c.args.control, c.requires) in
    record {
      outcome = one_given c.args.self a.code a.«upper_reset» a.delivered (c.args.control ∷ p) (1 + length p) (omega arith);
      reply =
          c.put.ensures.out_after
          ∙ into_fits p (set m 0 c.args.control) 1 room
          ∙ sets-front (c.args.control ∷ p) m (omega (arith, c.requires));
    }
