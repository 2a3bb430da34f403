-- The definitions of specs/ on small cases, by computation: what a reader may check them against. Assumes nothing.
use Prim.Native.Nat.{ℕ, ◌-◌}
use mathlib.Core.Path.{◌≡◌, refl}
use mathlib.Core.Bool.{true, false}
use mathlib.Core.List.{List, [], ◌∷◌}
use mathlib.Core.Option.{some}
use native.Mathlib.Omega.{arith}
use lib.Dec.{lit≤}
use lib.ListN.{replicate}
use Rattle.dlc_table.specs.Model.{Model}
use Rattle.dlc_table.specs.Answers.{done, other_number, reply_too_small}
use Rattle.dlc_answer.specs.declared.Answer.{Answer}
use Rattle.dlc.specs.Limits.{reply_size, data_packet, dack_packet}
use Rattle.dlc_run.specs.Replies.{Octets}
use Rattle.window.specs.Sides.{left, right}
use Rattle.dlc_pair.specs.World.{World, fresh_end, initial}
use Rattle.dlc_pair.specs.History.{timer, arrival, Event, History, called, relined, lost_by, lost_at, Drained, TimerWaits}
use Rattle.dlc_pair.specs.Progress.{Enough, exchange, recovery}

-- ---- what an answer means for the world
abbrev answer : ℕ → Answer
answer c = record { code = c; upper_reset = false; delivered = false; sent = 0; lengths = [] }

-- 26 makes the packet lost, 25 does not
pub lost_26 : lost_by true (answer reply_too_small) ≡ 1
lost_26 = refl

pub lost_25 : lost_by true (answer other_number) ≡ 0
lost_25 = refl

-- a lost DATA counts for its sender, a lost DACK for the end that it was sent to
module _ {L : Type 0} (l l' : L) where
  pub data_lost : lost_at 0 (some (data_packet 3 [])) (initial l l') ≡ record { left = relined [] 1 (fresh_end l); right = relined [] 0 (fresh_end l') }
  data_lost = refl

  pub dack_lost : lost_at 0 (some (dack_packet 3)) (initial l l') ≡ record { left = relined [] 0 (fresh_end l); right = relined [] 1 (fresh_end l') }
  dack_lost = refl

-- an end after a call that sent one packet of two octets: the next call takes the link that this one gave back, and the packet is on the line
abbrev one_sent : Answer
one_sent = record { code = done; upper_reset = false; delivered = false; sent = 1; lengths = 2 ∷ 0 ∷ [] }

pub after_call : {L : Type 0} (l l' : L) → called l one_sent (0x40 ∷ 7 ∷ 99 ∷ []) [] [] 0 (fresh_end l')
    ≡ record { link = l; line = (0x40 ∷ 7 ∷ []) ∷ []; copied = (0x40 ∷ 7 ∷ []) ∷ []; accepted = []; delivered = []; lost = 0; answers = done ∷ [] }
after_call l l' = refl

-- the premise on a timer call is about the world before it, and about its own end's timer alone
abbrev timer_at : Octets → List Event
timer_at b = record { side = left; act = timer b } ∷ []

pub premise_before : {L : Type 0} (v : L → Model) (b : Octets) (w : World L) (h : History v (timer_at b) w) → TimerWaits v left (timer_at b) w h ≡ (Drained w × Unit {0})
premise_before v b w h = refl

pub premise_other : {L : Type 0} (v : L → Model) (b : Octets) (w : World L) (h : History v (timer_at b) w) → TimerWaits v right (timer_at b) w h ≡ (Unit {0} × Unit {0})
premise_other v b w h = refl

-- a DACK that is on its way back is waited for
pub dack_awaited : {L : Type 0} (l l' : L) → Drained (record { left = fresh_end l; right = relined (dack_packet 3 ∷ []) 0 (fresh_end l') }) → ⊥
dack_awaited l l' h = omega (arith, h.1)

-- ---- an exchange of one payload: the timer here, DATA there, the DACK back; recovery with nothing to arrive is the two timers
pub one_exchange : (b : Octets) → exchange left b (b ∷ []) (b ∷ [])
    ≡ record { side = left; act = timer b } ∷ record { side = right; act = arrival b } ∷ record { side = left; act = arrival b } ∷ []
one_exchange b = refl

pub two_timers : (b : Octets) → recovery b 0 ≡ record { side = left; act = timer b } ∷ record { side = right; act = timer b } ∷ []
two_timers b = refl

-- a reply buffer that a full queue of the longest payloads fits into is enough, one that is an octet shorter is not
pub enough : Enough (replicate reply_size 0)
enough = lit≤ tt

pub not_enough : Enough (replicate (reply_size - 1) 0) → ⊥
not_enough h = omega (arith, h)
