-- `payload_of`: the slot begins with the octets. Assumes nothing.
use Rattle.std.proofs.Common.{ℕ, ◌≤◌, arith, ◌≡◌, refl, ap, ◌∙◌, List, length, take}
use Rattle.common.proofs.Buffer.{sets-front, take-with_front}
use Rattle.octets.specs.Put.{put_into}
use Rattle.octets.proofs.Putting.{into_fits}
use Rattle.dlc_queue.proofs.payload_of.Goals as goal

-- what was put at the front of a slot is taken from it
taken : (p slot m : List ℕ) → slot ≡ put_into p m 0 → length p ≤ length m → take (length p) slot ≡ p
taken p slot m e h = ap (take (length p)) (e ∙ into_fits p m 0 (omega arith) ∙ sets-front p m h) ∙ take-with_front p m (length p) refl

pub returns : goal.returns
returns c =
    let s = c in
    (refl, taken s.args.p.now _ _ c.put.ensures.out_after s.requires)
