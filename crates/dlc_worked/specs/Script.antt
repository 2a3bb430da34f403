-- Events of worked runs, each call with the reply buffer that is given, and a buffer that is long enough. Cited by the runs. Assumes nothing.
use Rattle.std.specs.Prelude.{ℕ, zero, suc, List, [], ◌∷◌, map, replicate}
use Rattle.dlc.specs.Limits.{reply_size}
use Rattle.dlc_run.specs.Replies.{Octets, Packets}
use Rattle.window.specs.Sides.{Side, left}
use Rattle.dlc_pair.specs.History.{Act, payload, arrival, Event}

abbrev pub buffer : Octets
buffer = replicate reply_size 0

abbrev pub at : Side → Act → Event
at d a = record { side = d; act = a }

-- payloads of one octet: n, n + 1, ..
abbrev pub payloads_from : ℕ → ℕ → Packets
payloads_from zero n = []
payloads_from (suc k) n = (n ∷ []) ∷ payloads_from k (suc n)

-- payloads handed to the left end
abbrev pub offered : Octets → Packets → List Event
offered buffer ps = map (λ (p : Octets). at left (payload p buffer)) ps

-- so many arrivals at an end
abbrev pub arrivals : Octets → ℕ → Side → List Event
arrivals buffer n d = replicate n (at d (arrival buffer))
