-- The step table: what each event makes of a link, in the order of the paper's table. Cited by the link's calls. Assumes nothing.
--
--   Effect                     an event's answer, the packets that it sends, and the link after it
--   made_of                     a link is made: its edition is set
--   start_of, timer_of, payload_of, arrival_of     the four events, refusals in order
--
-- The table is over the limit of places: how many payloads a queue holds. A place is a slot here. room is the length of the reply buffer.
use Rattle.std.specs.Prelude.{ℕ, ◌*◌, Bool, true, false, cond, not, ◌&&◌, List, [], ◌∷◌, ◌++◌, length, drop, leb, ltb, eqb}
use Rattle.common.specs.Refusals.{Refusal, guarded}
use Rattle.dlc_packet.specs.Numbers.{advance, edition1, edition_of, known_edition, dack_number, distance}
use Rattle.dlc_packet.specs.Packet.{max_payload, max_packet, reset_packet, reset_ack_packet, dack_packet, data_packet, data_packets, kind_of}
use Rattle.dlc_packet.specs.declared.Kind.{Kind}
use Rattle.dlc_packet.specs.declared.Kind.TheVariants.{Invalid, Reset as ResetKind, ResetAck, Data as DataKind, Dack}
use Rattle.dlc_table.specs.Answers.{done, not_open, payload_too_long, queue_full, bad_packet, no_entry, other_number, reply_too_small, bad_link, bad_edition}
use Rattle.dlc_table.specs.declared.State.{State}
use Rattle.dlc_table.specs.declared.State.TheVariants.{Idle, Reset, Data, Wait}
use Rattle.dlc_table.specs.Model.{Model, rebuilt, in_state, fresh}

-- what an event does: its number, whether the upper layer is told to reset, whether the packet's payload is delivered, the packets sent, the link after it
pub record Effect : Type 0 where
  pub code : ℕ
  pub upper_reset : Bool
  pub delivered : Bool
  pub packets : List (List ℕ)
  pub after : Model

-- an effect with nothing for the upper layer
abbrev pub effect : ℕ → List (List ℕ) → Model → Effect
effect c packets m = record { code = c; upper_reset = false; delivered = false; packets = packets; after = m }

-- "a refusal changes nothing": the link as it is, nothing sent
abbrev pub refuse : Model → ℕ → Effect
refuse m c = effect c [] m

-- ---- a link is made
-- "28 unknown edition, judged when the link is made, edition 1's fresh link given beside it"
unfoldable pub made_of : ℕ → Effect
made_of n = guarded ((not (known_edition n), bad_edition) ∷ []) (refuse (fresh edition1)) (effect done [] (fresh (edition_of n)))

-- ---- RESET
-- clear: "queue emptied, all numbers 0, upper layer told to reset, RESET_ACK sent, to DLDATA"
abbrev pub cleared : Model → Effect
cleared m = record {
  code = done;
  upper_reset = true;
  delivered = false;
  packets = reset_ack_packet ∷ [];
  after = rebuilt m Data [] 0 0;
}

-- ---- start, and RESET_ACK that answers it
abbrev pub start_step : Model → State → Effect
start_step m Idle = effect done [] (in_state Reset m)
start_step m Reset = refuse m no_entry
start_step m Data = refuse m no_entry
start_step m Wait = refuse m no_entry

abbrev pub reset_ack_step : Model → State → Effect
reset_ack_step m Idle = refuse m no_entry
reset_ack_step m Reset = effect done [] (in_state Data m)
reset_ack_step m Data = refuse m no_entry
reset_ack_step m Wait = refuse m no_entry

-- ---- DATA
-- the link that expects the next number
abbrev pub expect_next : Model → Model
expect_next m = rebuilt m m.state m.queue m.base (advance m.expected 1)

-- DACK for the number that the link expects, as its edition has it: at the start DACK 0, under edition 2 "15 at the start"; the link's numbers are 0
-- either way
abbrev pub dack_of : Model → List ℕ
dack_of m = dack_packet (dack_number m.edition m.expected)

-- judge: "if x is the awaited number, hand the payload up and count on; else answer 25 and hand up nothing. Either way send DACK with the number now awaited."
abbrev pub judged : Model → ℕ → Effect
judged m x =
    cond (eqb x m.expected)
    (record { code = done; upper_reset = false; delivered = true; packets = dack_of (expect_next m) ∷ []; after = expect_next m })
    (effect other_number (dack_of m ∷ []) m)

abbrev pub data_step : Model → State → ℕ → Effect
data_step m Idle x = refuse m no_entry
data_step m Reset x = refuse m no_entry
data_step m Data x = judged m x
data_step m Wait x = judged m x

-- ---- DACK
-- the state of an open link with this queue: "an emptied queue goes to DLDATA"
abbrev pub state_of : List (List ℕ) → State
state_of [] = Data
state_of (p ∷ ps) = Wait

-- the link without its n oldest payloads
abbrev pub without : Model → ℕ → Model
without m n =
    let left = drop n m.queue in
    rebuilt m (state_of left) left (advance m.base n) m.expected

-- the distance of a DACK x, as the link's edition has it
abbrev pub distance_of : Model → ℕ → ℕ
distance_of m x = distance m.edition m.base x

-- remove: "distance 1 up to the queue's length removes that many oldest; another distance answers 24"
abbrev pub acknowledged : Model → ℕ → Effect
acknowledged m n = cond (ltb 0 n && leb n (length m.queue)) (effect done [] (without m n)) (refuse m no_entry)

abbrev pub dack_step : Model → State → ℕ → Effect
dack_step m Idle x = refuse m no_entry
dack_step m Reset x = refuse m no_entry
dack_step m Data x = refuse m no_entry
dack_step m Wait x = acknowledged m (distance_of m x)

-- ---- timer
-- send all: "every queued payload as DATA, oldest first, none removed"
abbrev pub timer_step : Model → State → Effect
timer_step m Idle = refuse m no_entry
timer_step m Reset = effect done (reset_packet ∷ []) m
timer_step m Data = refuse m no_entry
timer_step m Wait = effect done (data_packets m.base m.queue) m

-- ---- payload
-- queue: the payload behind the others, to DLDWAIT
abbrev pub with_payload : Model → List ℕ → Model
with_payload m p = rebuilt m Wait (m.queue ++ (p ∷ [])) m.base m.expected

-- the number of the next payload: that of the oldest, and one more for each that is queued
abbrev pub next_number : Model → ℕ
next_number m = advance m.base (length m.queue)

-- "an accepted payload is now sent at once as DATA with its own number, besides being queued" (2026-03)
abbrev pub queued : Model → List ℕ → Effect
queued m p = effect done (data_packet (next_number m) p ∷ []) (with_payload m p)

-- DLDATA and DLDWAIT are open
abbrev pub is_open : State → Bool
is_open Idle = false
is_open Reset = false
is_open Data = true
is_open Wait = true

-- ---- the events, with their refusals in order: 27, 26, 23, 21, 20, 22
-- a packet by its kind
abbrev pub packet_step : Model → Kind → Effect
packet_step m Invalid = refuse m bad_packet
packet_step m ResetKind = cleared m
packet_step m ResetAck = reset_ack_step m m.state
packet_step m (DataKind x) = data_step m m.state x
packet_step m (Dack x) = dack_step m m.state x

module _ (limit : ℕ) where
  -- what every call refuses; the reply buffer must have room for a full queue of the longest payloads
  abbrev pub call_refusals : Model → ℕ → List Refusal
  call_refusals m room = (not m.ok, bad_link) ∷ (ltb room (limit * max_packet), reply_too_small) ∷ []

  -- what a payload call refuses besides
  abbrev pub payload_refusals : Model → List ℕ → List Refusal
  payload_refusals m p = (ltb max_payload (length p), payload_too_long) ∷ (not (is_open m.state), not_open) ∷ (leb limit (length m.queue), queue_full) ∷ []

  unfoldable pub start_of : Model → ℕ → Effect
  start_of m room = guarded (call_refusals m room) (refuse m) (start_step m m.state)

  unfoldable pub timer_of : Model → ℕ → Effect
  timer_of m room = guarded (call_refusals m room) (refuse m) (timer_step m m.state)

  unfoldable pub payload_of : Model → List ℕ → ℕ → Effect
  payload_of m p room = guarded (call_refusals m room ++ payload_refusals m p) (refuse m) (queued m p)

  unfoldable pub arrival_of : Model → List ℕ → ℕ → Effect
  arrival_of m packet room = guarded (call_refusals m room) (refuse m) (packet_step m (kind_of packet))
