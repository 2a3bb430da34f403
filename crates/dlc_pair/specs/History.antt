-- Lists of events at the two ends, what the calls gave back, and the world after them. Cited by Demand3. Assumes nothing.
--
--   Event              a call at an end with what is lent to it, or a loss
--   History v es w     for each event of the list what its call gave back: anything that meets the contract of the link's function
--   final v es w h     the world after them
--   TimerWaits v d es w h   every timer call of the end d came when none of its DATA, and no DACK to it, was on the line
--
-- v is the view of the links that the calls take: `view` of `Link`, or that of the link in plain numbers.
use Rattle.std.specs.Prelude.{ℕ, ◌+◌, ◌≡◌, Bool, ◌&&◌, List, [], ◌∷◌, ◌++◌, eqb}
use Rattle.std.proofs.Math.Option.{Option, none, some}
use Rattle.std.proofs.Math.ListN.{get_elem?}
use Rattle.dlc_table.specs.Answers.{reply_too_small}
use Rattle.dlc_table.specs.Model.{Model}
use Rattle.dlc_answer.specs.declared.Answer.{Answer}
use Rattle.dlc.specs.Calls.{StartCall, TimerCall, PayloadCall, ArrivalCall}
use Rattle.dlc_run.specs.Replies.{Octets, Packets, is_data, is_dack, Reply, copied_by, accepted_by, delivered_by}
use Rattle.window.specs.Sides.{Side, left, right, mirror, AskedAt, erase_at}
use Rattle.dlc_pair.specs.World.{one, count, End, World}

-- what happens at an end; a call comes with the octets lent to it, any octets and any number of them
pub data Act : Type 0 where
  payload : Octets → Octets → Act  -- the payload, the reply buffer
  timer : Octets → Act  -- the reply buffer
  start : Octets → Act  -- the reply buffer; at an open link it changes nothing
  arrival : Octets → Act  -- the reply buffer: the front packet of the incoming line leaves it and is lent to a call
  loss : ℕ → Act  -- the packet at this index of the outgoing line is lost

pub record Event : Type 0 where
  pub side : Side
  pub act : Act

-- ---- what a call gave back
-- of an arrival, by the incoming line; nothing is called where it is empty
abbrev pub GivenFront : {L : Type 0} → (L → Model) → Packets → End L → Octets → Type 0
GivenFront v [] e before = Unit {0}
GivenFront v (q ∷ qs) e before = Reply (ArrivalCall v e.link q before)

-- of an event at the left end
abbrev pub Given : {L : Type 0} → (L → Model) → Act → World L → Type 0
Given v (payload p before) w = Reply (PayloadCall v w.left.link p before)
Given v (timer before) w = Reply (TimerCall v w.left.link before)
Given v (start before) w = Reply (StartCall v w.left.link before)
Given v (arrival before) w = GivenFront v w.right.line w.left before
Given v (loss n) w = Unit {0}

-- ---- the world after an event
-- an end after a call that gave back the link r, answered c and sent these packets: with the payloads newly accepted and delivered, and how many
-- packets that count for it were lost
abbrev pub end_after : {L : Type 0} → L → ℕ → Packets → Packets → Packets → ℕ → End L → End L
end_after r c sent accepted delivered n e = record {
  link = r;
  line = e.line ++ sent;
  copied = e.copied ++ sent;
  accepted = e.accepted ++ accepted;
  delivered = e.delivered ++ delivered;
  lost = e.lost + n;
  answers = e.answers ++ (c ∷ []);
}

-- the packets are those that are copied out of the reply buffer
abbrev pub called : {L : Type 0} → L → Answer → Octets → Packets → Packets → ℕ → End L → End L
called r a later accepted delivered n e = end_after r a.code (copied_by a later) accepted delivered n e

-- an end with another outgoing line, and n packets more lost
abbrev pub relined : {L : Type 0} → Packets → ℕ → End L → End L
relined l n e = record {
  link = e.link;
  line = l;
  copied = e.copied;
  accepted = e.accepted;
  delivered = e.delivered;
  lost = e.lost + n;
  answers = e.answers;
}

-- "answer 26 makes the lent one lost"; the Bool says whether it would count
abbrev pub lost_by : Bool → Answer → ℕ
lost_by b a = one (b && eqb a.code reply_too_small)

-- an arrival at the left end, by the right end's line
abbrev pub arrived : {L : Type 0} (v : L → Model) (line : Packets) (before : Octets) (w : World L) → GivenFront v line w.left before → World L
arrived v [] before w g = w
arrived v (q ∷ qs) before w g = record {
  left = called g.link g.answer g.later [] (delivered_by q g.answer) (lost_by (is_dack q) g.answer) w.left;
  right = relined qs (lost_by (is_data q) g.answer) w.right;
}

-- a loss from the left end's line: a DATA counts for its sender, a DACK for the end that it was sent to
abbrev pub lost_at : {L : Type 0} → ℕ → Option Octets → World L → World L
lost_at n none w = w
lost_at n (some q) w = record {
  left = relined (erase_at n w.left.line) (one (is_data q)) w.left;
  right = relined w.right.line (one (is_dack q)) w.right;
}

-- an event at the left end
abbrev pub after : {L : Type 0} (v : L → Model) (a : Act) (w : World L) → Given v a w → World L
after v (payload p before) w g = record { left = called g.link g.answer g.later (accepted_by p g.answer) [] 0 w.left; right = w.right }
after v (timer before) w g = record { left = called g.link g.answer g.later [] [] 0 w.left; right = w.right }
after v (start before) w g = record { left = called g.link g.answer g.later [] [] 0 w.left; right = w.right }
after v (arrival before) w g = arrived v w.right.line before w g
after v (loss n) w g = lost_at n (get_elem? w.left.line n) w

-- at either end
abbrev pub GivenAt : {L : Type 0} → (L → Model) → Side → Act → World L → Type 0
GivenAt v left a w = Given v a w
GivenAt v right a w = Given v a (mirror w)

abbrev pub after_at : {L : Type 0} (v : L → Model) (d : Side) (a : Act) (w : World L) → GivenAt v d a w → World L
after_at v left a w g = after v a w g
after_at v right a w g = mirror (after v a (mirror w) g)

-- ---- lists of events
abbrev pub History : {L : Type 0} → (L → Model) → List Event → World L → Type 0
History v [] w = Unit {0}
History v (e ∷ es) w = (g : GivenAt v e.side e.act w) × History v es (after_at v e.side e.act w g)

abbrev pub final : {L : Type 0} (v : L → Model) (es : List Event) (w : World L) → History v es w → World L
final v [] w h = w
final v (e ∷ es) w h = final v es (after_at v e.side e.act w h.0) h.1

-- ---- the timer's premise
-- none of the left end's DATA is on the line, and no DACK to it
abbrev pub Drained : {L : Type 0} → World L → Type 0
Drained w = (count is_data w.left.line ≡ 0) × (count is_dack w.right.line ≡ 0)

-- what an event at the left end has to meet, in the world before it; a refused timer call too
abbrev pub Waits : {L : Type 0} → Act → World L → Type 0
Waits (payload p before) w = Unit {0}
Waits (timer before) w = Drained w
Waits (start before) w = Unit {0}
Waits (arrival before) w = Unit {0}
Waits (loss n) w = Unit {0}

-- what an event at the second side has to meet for the timer of the first
abbrev pub WaitsAt : {L : Type 0} → Side → Side → Act → World L → Type 0
WaitsAt = AskedAt Waits

abbrev pub TimerWaits : {L : Type 0} (v : L → Model) → Side → (es : List Event) (w : World L) → History v es w → Type 0
TimerWaits v d [] w h = Unit {0}
TimerWaits v d (e ∷ es) w h = WaitsAt d e.side e.act w × TimerWaits v d es (after_at v e.side e.act w h.0) h.1
