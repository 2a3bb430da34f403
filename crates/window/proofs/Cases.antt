-- The definitions of specs/ on small cases, by computation: what a reader may check them against. Assumes nothing.
use Prim.Native.Nat.{ℕ}
use mathlib.Core.Path.{◌≡◌, refl}
use mathlib.Core.Bool.{true, false}
use mathlib.Core.List.{[], ◌∷◌}
use mathlib.Core.Option.{some}
use native.Mathlib.Omega.{arith}
use lib.ListN.{length}
use Rattle.dlc_packet.specs.Numbers.{edition1, dack_number, distance}
use Rattle.window.specs.Sides.{left, right, Both, erase_at}
use Rattle.window.specs.Packets.{data_pdu, dack_pdu, numbered}
use Rattle.window.specs.Ends.{Rules, Sender, End, apply_dack}
use Rattle.window.specs.Events.{offer, timeout, receive, lose, start, lose_at, run, Drained}
use Rattle.window.specs.Claim.{exchange}

-- a window that is large enough for the runs below, and the paper's DACK
abbrev rules : Rules
rules = record { window = 2; at_once = false; dack_number = dack_number edition1; distance = distance edition1 }

pub erased : erase_at {A = ℕ} 1 (5 ∷ 6 ∷ 7 ∷ []) ≡ 5 ∷ 7 ∷ []
erased = refl

pub erased_none : erase_at {A = ℕ} 3 (5 ∷ 6 ∷ 7 ∷ []) ≡ 5 ∷ 6 ∷ 7 ∷ []
erased_none = refl

-- after 15 comes 0
pub numbers_restart : numbered 15 ((1 ∷ []) ∷ (2 ∷ []) ∷ []) ≡ data_pdu 15 (1 ∷ []) ∷ data_pdu 0 (2 ∷ []) ∷ []
numbers_restart = refl

-- two payloads with the numbers 14 and 15: DACK 0 empties the queue, DACK 15 removes one, DACK 14 and DACK 1 none
abbrev waiting : Sender
waiting = record { queue = (1 ∷ []) ∷ (2 ∷ []) ∷ []; base = 14; accepted = (1 ∷ []) ∷ (2 ∷ []) ∷ []; sent = 2; lost = 0 }

pub dack_0 : (apply_dack (distance edition1 14 0) waiting).queue ≡ []
dack_0 = refl

pub dack_15 : (apply_dack (distance edition1 14 15) waiting).queue ≡ (2 ∷ []) ∷ []
dack_15 = refl

pub dack_14 : apply_dack (distance edition1 14 14) waiting ≡ waiting
dack_14 = refl

pub dack_1 : apply_dack (distance edition1 14 1) waiting ≡ waiting
dack_1 = refl

-- a lost DATA counts for its sender, a lost DACK for the end that it was sent to
pub data_lost : (lose_at 0 (some (data_pdu 3 [])) start).left.sender.lost ≡ 1
data_lost = refl

pub dack_lost : (lose_at 0 (some (dack_pdu 3)) start).right.sender.lost ≡ 1
dack_lost = refl

-- an exchange of one payload, event by event: the timer here, DATA there, DACK back
pub one_exchange : exchange left 1 1
    ≡ record { side = left; act = timeout true } ∷ record { side = right; act = receive true } ∷ record { side = left; act = receive true } ∷ []
one_exchange = refl

-- DATA 0 is delivered and answered with DACK 1; DATA 0 again is not delivered, and is answered with DACK 1 again
abbrev sent_once : Both End
sent_once = run rules
    (record { side = left; act = offer true (7 ∷ []) } ∷ record { side = left; act = timeout true } ∷ record { side = right; act = receive true } ∷ []) start

abbrev sent_twice : Both End
sent_twice = run rules (record { side = left; act = timeout true } ∷ record { side = right; act = receive true } ∷ []) sent_once

pub twice_answered : sent_twice.right.line ≡ dack_pdu 1 ∷ dack_pdu 1 ∷ []
twice_answered = refl

pub once_answered : sent_once.right.line ≡ dack_pdu 1 ∷ []
once_answered = refl

pub twice_delivered : sent_twice.right.receiver.delivered ≡ (7 ∷ []) ∷ []
twice_delivered = refl

-- the first of two is lost: DATA 1 is not delivered where 0 is expected, and is answered with DACK 0
abbrev first_lost : Both End
first_lost = run rules
    (record { side = left; act = offer true (1 ∷ []) }
    ∷ record { side = left; act = offer true (2 ∷ []) }
    ∷ record { side = left; act = timeout true }
    ∷ record { side = left; act = lose 0 }
    ∷ record { side = right; act = receive true }
    ∷ []) start

pub gap_not_delivered : length first_lost.right.receiver.delivered ≡ 0
gap_not_delivered = refl

pub gap_answered : first_lost.right.line ≡ dack_pdu 0 ∷ []
gap_answered = refl

-- while the DACK is on the way the line is not drained
pub not_drained : Drained sent_once → ⊥
not_drained h = omega (arith, h.1)
