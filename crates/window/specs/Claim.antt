-- What the sliding window gives. Proved in proofs/SlidingWindow and proofs/Progress. Assumes nothing.
use Rattle.std.specs.Prelude.{ℕ, ◌+◌, ◌*◌, ◌≤◌, ◌≡◌, true, length, replicate}
use mathlib.Core.List.{List, [], ◌∷◌, ◌++◌, IsPrefix}
use Rattle.window.specs.Sides.{Side, left, right, opposite, Both, mirror, end_at}
use Rattle.window.specs.Ends.{Rules, End}
use Rattle.window.specs.Events.{timeout, receive, Event, start, run, Drained, TimerWaits}

-- from the sender to the receiver: what is delivered is an initial part of what was accepted, in order; and where the sender's timer waited,
-- the DATA sent are at most the payloads accepted and a window for each lost packet
pub record OneWay (r : Rules) (sender receiver : End) (Waited : Type 0) : Type 0 where
  pub prefix : IsPrefix receiver.receiver.delivered sender.sender.accepted
  pub bound : Waited → sender.sender.sent ≤ length sender.sender.accepted + r.window * sender.sender.lost

pub record SlidingWindow (r : Rules) (es : List Event) : Type 0 where
  pub left_to_right : OneWay r (run r es start).left (run r es start).right (TimerWaits r left es start)
  pub right_to_left : OneWay r (run r es start).right (run r es start).left (TimerWaits r right es start)

-- ---- without a loss
-- none of this end's DATA is on the line, and no DACK to it
abbrev pub DrainedAt : Side → Both End → Type 0
DrainedAt left s = Drained s
DrainedAt right s = Drained (mirror s)

-- nothing is left in the queue of this end, and all that it accepted is delivered
pub record AllDelivered (d : Side) (s : Both End) : Type 0 where
  pub queue : (end_at d s).sender.queue ≡ []
  pub delivered : (end_at (opposite d) s).receiver.delivered ≡ (end_at d s).sender.accepted

-- ---- progress
-- the timer of this end, then k arrivals at the other end, then m arrivals at this one; none is refused and nothing is lost
abbrev pub exchange : Side → ℕ → ℕ → List Event
exchange d k m =
    record { side = d; act = timeout true }
    ∷ (replicate k (record { side = opposite d; act = receive true }) ++ replicate m (record { side = d; act = receive true }))

-- from s to z: nothing is left in the queue of this end, all that it had accepted is delivered, and both lines are empty again
pub record Settled (d : Side) (s z : Both End) : Type 0 where
  pub queue : (end_at d z).sender.queue ≡ []
  pub accepted : (end_at d z).sender.accepted ≡ (end_at d s).sender.accepted
  pub delivered : (end_at (opposite d) z).receiver.delivered ≡ (end_at d s).sender.accepted
  pub lines : (z.left.line ≡ []) × (z.right.line ≡ [])

-- ---- recovery
-- arrivals of whatever is on the lines, then an exchange of the left end and one of the right end; none is refused and nothing is lost
abbrev pub recovery : ℕ → List Event
recovery n =
    replicate n (record { side = right; act = receive true })
    ++ (replicate (n + n) (record { side = left; act = receive true })
    ++ (replicate (n + n) (record { side = right; act = receive true })
    ++ (exchange left n n ++ exchange right n n)))

-- from s to z: both queues and both lines are empty, and all that was accepted at either end is delivered at the other
pub record Recovered (s z : Both End) : Type 0 where
  pub queues : (z.left.sender.queue ≡ []) × (z.right.sender.queue ≡ [])
  pub lines : (z.left.line ≡ []) × (z.right.line ≡ [])
  pub left_to_right : z.right.receiver.delivered ≡ s.left.sender.accepted
  pub right_to_left : z.left.receiver.delivered ≡ s.right.sender.accepted
