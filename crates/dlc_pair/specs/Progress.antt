-- What was accepted is delivered: where nothing was lost, without any timer call; and once nothing is lost any more (progress and recovery).
-- Proved in proofs/Progress. Assumes nothing.
use Rattle.std.specs.Prelude.{ℕ, ◌+◌, ◌≤◌, ◌≡◌, List, [], ◌∷◌, ◌++◌, map, length, replicate}
use Rattle.dlc_table.specs.Model.{Model}
use Rattle.dlc.specs.Limits.{reply_size}
use Rattle.dlc_run.specs.Replies.{Octets}
use Rattle.window.specs.Sides.{Side, left, right, opposite, mirror, end_at}
use Rattle.dlc_pair.specs.World.{World}
use Rattle.dlc_pair.specs.History.{timer, arrival, Event, Drained}

-- ---- without a loss
-- none of this end's DATA is on the line, and no DACK to it
abbrev pub DrainedAt : {L : Type 0} → Side → World L → Type 0
DrainedAt left w = Drained w
DrainedAt right w = Drained (mirror w)

-- nothing is left in the queue of this end, and all that it accepted is delivered at the other
pub record AllDelivered {L : Type 0} (v : L → Model) (d : Side) (w : World L) : Type 0 where
  pub queue : (v (end_at d w).link).queue ≡ []
  pub delivered : (end_at (opposite d) w).delivered ≡ (end_at d w).accepted

-- ---- progress
-- a reply buffer that no call refuses
abbrev pub Enough : Octets → Type 0
Enough before = reply_size ≤ length before

abbrev pub AllEnough : List Octets → Type 0
AllEnough [] = Unit {0}
AllEnough (b ∷ bs) = Enough b × AllEnough bs

-- an arrival at this end for each of the reply buffers
abbrev pub arrivals : Side → List Octets → List Event
arrivals d bs = map (λ (b : Octets). record { side = d; act = arrival b }) bs

-- the timer of this end, then arrivals at the other end, then arrivals at this end, each call with a reply buffer of its own
abbrev pub exchange : Side → Octets → List Octets → List Octets → List Event
exchange d b bs cs = record { side = d; act = timer b } ∷ (arrivals (opposite d) bs ++ arrivals d cs)

-- from w to z: nothing is left in the queue of this end, all that it had accepted is delivered at the other, and both lines are empty again
pub record Settled {L : Type 0} (v : L → Model) (d : Side) (w z : World L) : Type 0 where
  pub queue : (v (end_at d z).link).queue ≡ []
  pub accepted : (end_at d z).accepted ≡ (end_at d w).accepted
  pub delivered : (end_at (opposite d) z).delivered ≡ (end_at d w).accepted
  pub lines : (z.left.line ≡ []) × (z.right.line ≡ [])

-- ---- recovery
-- arrivals of whatever is on the lines, then an exchange of the left end and one of the right end, every call with a reply buffer b
abbrev pub recovery : Octets → ℕ → List Event
recovery b n =
    arrivals right (replicate n b)
    ++ (arrivals left (replicate (n + n) b)
    ++ (arrivals right (replicate (n + n) b)
    ++ (exchange left b (replicate n b) (replicate n b) ++ exchange right b (replicate n b) (replicate n b))))

-- from w to z: both queues and both lines are empty, and all that was accepted at either end is delivered at the other
pub record Recovered {L : Type 0} (v : L → Model) (w z : World L) : Type 0 where
  pub queues : ((v z.left.link).queue ≡ []) × ((v z.right.link).queue ≡ [])
  pub lines : (z.left.line ≡ []) × (z.right.line ≡ [])
  pub left_to_right : z.right.delivered ≡ w.left.accepted
  pub right_to_left : z.left.delivered ≡ w.right.accepted
