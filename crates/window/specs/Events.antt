-- Lists of events at two ends, and what they lead to. Cited by Claim, and by the proof of demand 3 over octets. Assumes nothing.
use Rattle.std.specs.Prelude.{ℕ, ◌≡◌, Bool, cond, ◌&&◌, List, [], ◌∷◌, length, ltb, eqb}
use Rattle.std.proofs.Math.Option.{Option, none, some}
use Rattle.std.proofs.Math.ListN.{get_elem?}
use Rattle.window.specs.Sides.{Side, left, right, Both, mirror, AskedAt, erase_at}
use Rattle.window.specs.Packets.{Payload, Packet, data_pdu, dack_pdu, count_data, count_dack}
use Rattle.window.specs.Ends.{Rules, End, lost_one, apply_dack, with_line, with_sender, accept, send_all, take_data}

-- what happens at an end. The Bool says whether the call passes the refusals that go by what is lent to it (a reply buffer that is too
-- short, a payload that is too long)
pub data Act : Type 0 where
  offer : Bool → Payload → Act  -- a payload is offered
  timeout : Bool → Act  -- the timer runs out
  receive : Bool → Act  -- the front packet of the incoming line arrives
  lose : ℕ → Act  -- the packet at this index of the outgoing line is lost

pub record Event : Type 0 where
  pub side : Side
  pub act : Act

-- no payload accepted, none sent, nothing on the line
abbrev pub fresh : End
fresh = record {
  sender = record { queue = []; base = 0; accepted = []; sent = 0; lost = 0 };
  receiver = record { expected = 0; delivered = [] };
  line = [];
}

abbrev pub start : Both End
start = record { left = fresh; right = fresh }

-- a lost DATA counts for its sender, a lost DACK for the end that it was sent to
abbrev pub lose_at : ℕ → Option Packet → Both End → Both End
lose_at n none s = s
lose_at n (some (data_pdu x p)) s = record { left = with_sender (lost_one s.left.sender) (with_line (erase_at n s.left.line) s.left); right = s.right }
lose_at n (some (dack_pdu x)) s = record { left = with_line (erase_at n s.left.line) s.left; right = with_sender (lost_one s.right.sender) s.right }

module _ (r : Rules) where
  -- the front of the right end's line arrives at the left end; refused, it is lost
  abbrev pub arrive : Bool → List Packet → Both End → Both End
  arrive ok [] s = s
  arrive ok (data_pdu x p ∷ ks) s =
      cond ok
      (record { left = take_data r (eqb x s.left.receiver.expected) p s.left; right = with_line ks s.right })
      (record { left = s.left; right = with_sender (lost_one s.right.sender) (with_line ks s.right) })
  arrive ok (dack_pdu x ∷ ks) s =
      cond ok
      (record { left = with_sender (apply_dack (r.distance s.left.sender.base x) s.left.sender) s.left; right = with_line ks s.right })
      (record { left = with_sender (lost_one s.left.sender) s.left; right = with_line ks s.right })

  -- an event at the left end
  abbrev pub step : Act → Both End → Both End
  step (offer ok p) s = cond (ok && ltb (length s.left.sender.queue) r.window) (record { left = accept r p s.left; right = s.right }) s
  step (timeout ok) s = cond (ok && ltb 0 (length s.left.sender.queue)) (record { left = send_all r s.left; right = s.right }) s
  step (receive ok) s = arrive ok s.right.line s
  step (lose n) s = lose_at n (get_elem? s.left.line n) s

  -- at either end
  abbrev pub step_at : Side → Act → Both End → Both End
  step_at left a s = step a s
  step_at right a s = mirror (step a (mirror s))

  abbrev pub run : List Event → Both End → Both End
  run [] s = s
  run (e ∷ es) s = run es (step_at e.side e.act s)

-- ---- the timer's premise
-- none of the left end's DATA is on the line, and no DACK to it
abbrev pub Drained : Both End → Type 0
Drained s = (count_data s.left.line ≡ 0) × (count_dack s.right.line ≡ 0)

-- the left end's timer runs out only then: tested before the event, and for a refused call too
abbrev pub Waits : Act → Both End → Type 0
Waits (offer ok p) s = Unit {0}
Waits (timeout ok) s = Drained s
Waits (receive ok) s = Unit {0}
Waits (lose n) s = Unit {0}

-- what an event at the second side has to meet for the timer of the first
abbrev pub WaitsAt : Side → Side → Act → Both End → Type 0
WaitsAt = AskedAt Waits

module _ (r : Rules) where
  -- the timer of this side waits at every event of the list
  abbrev pub TimerWaits : Side → List Event → Both End → Type 0
  TimerWaits d [] s = Unit {0}
  TimerWaits d (e ∷ es) s = WaitsAt d e.side e.act s × TimerWaits d es (step_at r e.side e.act s)
