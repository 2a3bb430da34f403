-- The runs of docs/EDITIONS.md, from two open ends that use different editions. Cited by proofs/Editions. Assumes nothing.
--
--   other d        the edition that is not d
--   answered       a payload is sent, delivered and answered; the DACK arrives
--   unsettled      and then the timer, whose line is empty, sends it again
--   cleared        two payloads are sent, the first is lost; the second is answered, and the DACK arrives
--   overtaken      a full queue is sent, the first is lost; the second is answered, and the DACK arrives. Two payloads more are sent, and all that is on
--                  the line arrives
--   round          the timer at the left end, DATA there, DACK back
use Rattle.std.specs.Prelude.{◌+◌, List, [], ◌∷◌, ◌++◌}
use Rattle.dlc_packet.specs.Numbers.{Edition, edition1, edition2}
use Rattle.dlc.specs.Limits.{slots}
use Rattle.window.specs.Sides.{left, right}
use Rattle.dlc_pair.specs.History.{timer, arrival, loss, Event}
use Rattle.dlc_worked.specs.Script.{buffer, at, payloads_from, offered, arrivals}

abbrev pub other : Edition → Edition
other edition1 = edition2
other edition2 = edition1

-- DATA arrives at the right end, and its DACK at the left one
abbrev there_and_back : List Event
there_and_back = at right (arrival buffer) ∷ at left (arrival buffer) ∷ []

abbrev pub round : List Event
round = at left (timer buffer) ∷ there_and_back

abbrev pub answered : List Event
answered = offered buffer (payloads_from 1 1) ++ there_and_back

abbrev pub unsettled : List Event
unsettled = answered ++ (at left (timer buffer) ∷ [])

abbrev pub cleared : List Event
cleared = offered buffer (payloads_from 2 1) ++ (at left (loss 0) ∷ []) ++ there_and_back

-- of the DATA of a full queue two have left the line; those behind them arrive, and then the two new ones
abbrev pub overtaken : List Event
overtaken =
    offered buffer (payloads_from slots 1)
    ++ (at left (loss 0) ∷ [])
    ++ there_and_back
    ++ offered buffer (payloads_from 2 (slots + 1))
    ++ arrivals buffer slots right
