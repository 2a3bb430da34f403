-- Rules to which the theorem applies, runs that meet its bound, and why sixteen slots are too many. By computation. Assumes nothing.
use Prim.Native.Nat.{ℕ, ◌+◌, ◌-◌, ◌*◌, ◌<◌}
use mathlib.Core.Path.{◌≡◌, refl}
use mathlib.Core.Bool.{Bool, true, false}
use mathlib.Core.List.{List, [], ◌∷◌, ◌++◌}
use native.Mathlib.Omega.{arith}
use lib.ListN.{length, replicate}
use Rattle.dlc_packet.specs.Numbers.{Edition, edition1, dack_number, distance}
use Rattle.dlc_packet.proofs.Numbers.{distance-dack_number}
use Rattle.window.specs.Sides.{Side, left, right}
use Rattle.window.specs.Packets.{modulus}
use Rattle.window.specs.Ends.{Rules, Lawful}
use Rattle.window.specs.Events.{Act, offer, timeout, receive, lose, Event, start, run, TimerWaits}
use Rattle.window.specs.Claim.{SlidingWindow}
use Rattle.window.proofs.SlidingWindow.{sliding_window}
use Rattle.window.proofs.Deciding.{timer_waits-true}

-- ---- rules: a window, whether payloads are sent at once, and the paper's DACK of an edition
abbrev pub rules_of : Edition → ℕ → Bool → Rules
rules_of d w once = record { window = w; at_once = once; dack_number = dack_number d; distance = distance d }

pub rules_of-lawful : (d : Edition) (w : ℕ) (once : Bool) → w < modulus → Lawful (rules_of d w once)
rules_of-lawful d w once h = record { below = h; distance = distance-dack_number d }

-- fifteen slots and payloads sent at once, as the link has them (2026-06, 2026-03), in either edition
pub fifteen : (d : Edition) (es : List Event) → SlidingWindow (rules_of d 15 true) es
fifteen d es = sliding_window (rules_of d 15 true) (rules_of-lawful d 15 true (omega arith)) es

-- the runs below are of edition 1
abbrev expecting : ℕ → Bool → Rules
expecting w once = rules_of edition1 w once

-- ---- runs
abbrev pub at : Side → Act → Event
at d a = record { side = d; act = a }

abbrev pub times : ℕ → Side → Act → List Event
times n d a = replicate n (at d a)

-- w payloads are sent and the first is lost; the others are answered, and all are sent again: sent = w + w * lost, with the timer waiting
abbrev tight : ℕ → List Event
tight w =
    times w left (offer true (5 ∷ []))
    ++ (at left (timeout true) ∷ at left (lose 0) ∷ [])
    ++ times (w - 1) right (receive true)
    ++ times (w - 1) left (receive true)
    ++ (at left (timeout true) ∷ [])

pub tight_sent : (run (expecting 3 false) (tight 3) start).left.sender.sent ≡ 3 + 3 * (run (expecting 3 false) (tight 3) start).left.sender.lost
tight_sent = refl

pub tight_waits : TimerWaits (expecting 3 false) left (tight 3) start
tight_waits = timer_waits-true (expecting 3 false) left (tight 3) start tt

-- with fifteen slots it is fifteen for each lost
pub tight_fifteen : (run (expecting 15 false) (tight 15) start).left.sender.sent ≡ 15 + 15 * (run (expecting 15 false) (tight 15) start).left.sender.lost
tight_fifteen = refl

-- ---- sixteen slots, by rules under which the timer alone sends; the run of the link itself is in dlc_worked. Sixteen payloads are sent and delivered, and no DACK comes back. The timer sends all sixteen again: the first has the
-- number 0, which the receiver expects again, and is delivered a second time: 17 delivered of 16 accepted. With fifteen slots the same run is
-- right: the receiver expects 15, and no slot has that number
abbrev again : ℕ → List Event
again w =
    times w left (offer true (7 ∷ []))
    ++ (at left (timeout true) ∷ [])
    ++ times w right (receive true)
    ++ times w right (lose 0)
    ++ (at left (timeout true) ∷ at right (receive true) ∷ [])

pub sixteen_accepted : length (run (expecting 16 false) (again 16) start).left.sender.accepted ≡ 16
sixteen_accepted = refl

pub sixteen_delivered : length (run (expecting 16 false) (again 16) start).right.receiver.delivered ≡ 17
sixteen_delivered = refl

-- and the timer had waited
pub sixteen_waits : TimerWaits (expecting 16 false) left (again 16) start
sixteen_waits = timer_waits-true (expecting 16 false) left (again 16) start tt

pub fifteen_delivered : length (run (expecting 15 false) (again 15) start).right.receiver.delivered ≡ 15
fifteen_delivered = refl
