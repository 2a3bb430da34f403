-- The run of docs/SIXTEEN.md, for any number of places: a queue is filled and delivered, no DACK comes back, and the timer sends all again. Cited by
-- proofs/Sixteen. Assumes nothing.
--
--   filled n        n payloads are accepted at the left end, each sent at once, and all arrive at the right end
--   unanswered n    and all DACKs that answer them are lost: the lines are empty
--   again n         then the timer sends all again, and the first of them arrives
--   hasty n         the same without the losses: the timer comes while the DACKs are on their way
use Rattle.std.specs.Prelude.{ℕ, ◌*◌, List, [], ◌∷◌, ◌++◌, replicate}
use Rattle.dlc_packet.specs.Numbers.{modulus}
use Rattle.dlc_packet.specs.Packet.{max_packet}
use Rattle.dlc_run.specs.Replies.{Octets}
use Rattle.window.specs.Sides.{left, right}
use Rattle.dlc_pair.specs.History.{timer, arrival, loss, Event}
use Rattle.dlc_worked.specs.Script.{at, payloads_from, offered, arrivals}

-- as many places as there are numbers
abbrev pub too_many : ℕ
too_many = modulus

-- a reply buffer that is long enough for so many
abbrev pub buffer : Octets
buffer = replicate (too_many * max_packet) 0

abbrev pub filled : ℕ → List Event
filled n = offered buffer (payloads_from n 1) ++ arrivals buffer n right

abbrev pub unanswered : ℕ → List Event
unanswered n = filled n ++ replicate n (at right (loss 0))

-- all is sent again, and the first arrives
abbrev repeated : List Event
repeated = at left (timer buffer) ∷ at right (arrival buffer) ∷ []

abbrev pub again : ℕ → List Event
again n = unanswered n ++ repeated

abbrev pub hasty : ℕ → List Event
hasty n = filled n ++ repeated
