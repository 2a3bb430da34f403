-- Lists of events at one link: what its calls gave back, and what a caller observes of them. Cited by proofs/Runs, where it is the step table's. Assumes nothing.
--
--   History v es l         for each event of the list what its call gave back: anything that meets the contract of the link's function
--   final v es l h         the link after them
--   trace v es l h         what the caller observes, call by call, and the link as it was seen after each
--   table_trace limit es m  what the step table says of the same
--   codes ts               the numbers answered
--
-- v is the view of the links that the calls take: `view` of `Link`, or that of the link in plain numbers.
use Rattle.std.specs.Prelude.{ℕ, Bool, cond, drop}
use mathlib.Core.List.{List, [], ◌∷◌, map, flatten}
use Rattle.common.specs.Buffer.{with_front}
use Rattle.dlc_table.specs.Model.{Model}
use Rattle.dlc_table.specs.Events.{Effect}
use Rattle.dlc_table.specs.Runs.{Event, start, timer, payload, arrival, effect_of}
use Rattle.dlc_answer.specs.declared.Answer.{Answer}
use Rattle.dlc_answer.specs.Delivered.{delivered_part}
use Rattle.dlc.specs.Calls.{StartCall, TimerCall, PayloadCall, ArrivalCall}
use Rattle.dlc_run.specs.Replies.{Octets, Packets, Reply, copied_by}

-- what the link's function ensures at an event
abbrev pub Contract : {L : Type 0} → (L → Model) → Event → L → Octets → L → Answer → Type 0
Contract v (start before) l later r a = StartCall v l before later r a
Contract v (timer before) l later r a = TimerCall v l before later r a
Contract v (payload p before) l later r a = PayloadCall v l p before later r a
Contract v (arrival packet before) l later r a = ArrivalCall v l packet before later r a

-- each call takes the link that the last one gave back
abbrev pub next_link : {L : Type 0} (v : L → Model) (e : Event) (l : L) → Reply (Contract v e l) → L
next_link v e l g = g.link

abbrev pub History : {L : Type 0} → (L → Model) → List Event → L → Type 0
History v [] l = Unit {0}
History v (e ∷ es) l = (g : Reply (Contract v e l)) × History v es (next_link v e l g)

-- the link after the last call; with no call, the link that there is
abbrev pub final : {L : Type 0} (v : L → Model) (es : List Event) (l : L) → History v es l → L
final v [] l h = l
final v (e ∷ es) l h = final v es (next_link v e l h.0) h.1

-- ---- what a caller observes of a call
pub record Observed : Type 0 where
  pub code : ℕ
  pub upper_reset : Bool
  -- the packets copied out of the reply buffer, and the whole buffer after the call
  pub packets : Packets
  pub reply : Octets
  -- the payload delivered, an empty one too; none where the call delivers none
  pub delivered : Packets
  -- the link as it is seen after the call
  pub after : Model

-- the packet and the reply buffer that are lent to a call; only an arrival has a packet
abbrev pub packet_of : Event → Octets
packet_of (start before) = []
packet_of (timer before) = []
packet_of (payload p before) = []
packet_of (arrival packet before) = packet

abbrev pub buffer_of : Event → Octets
buffer_of (start before) = before
buffer_of (timer before) = before
buffer_of (payload p before) = before
buffer_of (arrival packet before) = before

-- by what the call gave back
abbrev pub observed_by : {L : Type 0} (v : L → Model) (e : Event) (l : L) → Reply (Contract v e l) → Observed
observed_by v e l g = record {
  code = g.answer.code;
  upper_reset = g.answer.upper_reset;
  packets = copied_by g.answer g.later;
  reply = g.later;
  delivered = cond g.answer.delivered (delivered_part g.answer.delivered (packet_of e) ∷ []) [];
  after = v g.link;
}

abbrev pub trace : {L : Type 0} (v : L → Model) (es : List Event) (l : L) → History v es l → List Observed
trace v [] l h = []
trace v (e ∷ es) l h = observed_by v e l h.0 ∷ trace v es (next_link v e l h.0) h.1

-- by the table: its number, its packets one after another at the front of the buffer, the payload behind the control octet, the link after it
abbrev pub observed_of : Event → Effect → Observed
observed_of e d = record {
  code = d.code;
  upper_reset = d.upper_reset;
  packets = d.packets;
  reply = with_front (flatten d.packets) (buffer_of e);
  delivered = cond d.delivered (drop 1 (packet_of e) ∷ []) [];
  after = d.after;
}

abbrev pub table_trace : ℕ → List Event → Model → List Observed
table_trace limit [] m = []
table_trace limit (e ∷ es) m = observed_of e (effect_of limit e m) ∷ table_trace limit es (effect_of limit e m).after

-- the numbers that the calls answered
abbrev pub codes : List Observed → List ℕ
codes ts = map (λ (t : Observed). t.code) ts
