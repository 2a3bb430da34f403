-- The definitions of specs/ on small cases, by computation: what a reader may check them against. Assumes nothing.
use Prim.Native.Nat.{ℕ, ◌+◌, ◌*◌}
use mathlib.Core.Path.{◌≡◌, refl}
use mathlib.Core.Bool.{Bool, true, false}
use mathlib.Core.List.{List, [], ◌∷◌, map, flatten}
use lib.ListN.{replicate}
use Rattle.dlc_packet.specs.Numbers.{Edition, edition1, edition2}
use Rattle.dlc_packet.specs.Packet.{max_packet, reset_packet, reset_ack_packet, data_packet, dack_packet}
use Rattle.dlc_table.specs.declared.State.TheVariants.{Reset, Data, Wait}
use Rattle.dlc_table.specs.Answers.{done, queue_full, other_number}
use Rattle.dlc_table.specs.Model.{Model, rebuilt, in_state, fresh, opened}
use Rattle.dlc_table.specs.Events.{refuse, start_of, timer_of, payload_of, arrival_of}
use Rattle.dlc_table.specs.Runs.{Event, start, timer, payload, arrival}
use Rattle.dlc_answer.specs.declared.Answer.{Answer}
use Rattle.dlc_run.specs.Replies.{Octets, Packets, is_data, is_dack, packets_in, Reply, accepted_by, delivered_by, Never}
use Rattle.dlc_run.specs.Runs.{Contract, History, final, Observed, buffer_of, observed_by, observed_of, table_trace, codes}

-- ---- packets
-- 4x is DATA whatever x is, 5x is DACK, RESET is neither
abbrev packets : Packets
packets = (0x40 ∷ []) ∷ (0x4F ∷ 1 ∷ []) ∷ (0x50 ∷ []) ∷ (0x5F ∷ []) ∷ reset_packet ∷ [] ∷ []

pub kinds : map is_data packets ≡ true ∷ true ∷ false ∷ false ∷ false ∷ false ∷ []
kinds = refl

pub dacks : map is_dack packets ≡ false ∷ false ∷ true ∷ true ∷ false ∷ false ∷ []
dacks = refl

-- two packets out of a buffer that goes on
pub two_packets : packets_in 2 (2 ∷ 1 ∷ 0 ∷ []) (0x40 ∷ 7 ∷ 0x41 ∷ 99 ∷ []) ≡ (0x40 ∷ 7 ∷ []) ∷ (0x41 ∷ []) ∷ []
two_packets = refl

-- ---- what an answer means for its caller
abbrev answer : ℕ → Bool → Answer
answer c up = record { code = c; upper_reset = false; delivered = up; sent = 0; lengths = [] }

-- a payload is accepted where its call answered 0, an empty one too
pub accepted_0 : accepted_by [] (answer done false) ≡ [] ∷ []
accepted_0 = refl

pub accepted_22 : accepted_by (7 ∷ []) (answer queue_full false) ≡ []
accepted_22 = refl

-- DATA delivers what stands behind its control octet, where it was answered 0
pub delivered_0 : delivered_by (data_packet 3 (7 ∷ 8 ∷ [])) (answer done true) ≡ (7 ∷ 8 ∷ []) ∷ []
delivered_0 = refl

pub delivered_25 : delivered_by (data_packet 3 (7 ∷ [])) (answer other_number false) ≡ []
delivered_25 = refl

-- a DACK delivers nothing
pub delivered_dack : delivered_by (dack_packet 3) (answer done false) ≡ []
delivered_dack = refl

-- ---- what the calls give back
module _ {L : Type 0} (v : L → Model) (l : L) where
  -- the link after one call, and after two, is the one that the last call gave back
  pub final_one : (e : Event) (h : History v (e ∷ []) l) → final v (e ∷ []) l h ≡ h.0.link
  final_one e h = refl

  pub final_two : (e f : Event) (h : History v (e ∷ f ∷ []) l) → final v (e ∷ f ∷ []) l h ≡ h.1.0.link
  final_two e f h = refl

  module _ (x : ℕ) (b : Octets) where
    -- an arrival that delivers: the payload is observed without its control octet, an empty one too
    pub observed_payload : (p : Octets) (g : Reply (Contract v (arrival (data_packet x p) b) l)) → g.answer.delivered ≡ true
        → (observed_by v (arrival (data_packet x p) b) l g).delivered ≡ p ∷ []
    observed_payload p g e = rw e

    -- one that does not: none is observed
    pub observed_none : (p : Octets) (g : Reply (Contract v (arrival (data_packet x p) b) l)) → g.answer.delivered ≡ false
        → (observed_by v (arrival (data_packet x p) b) l g).delivered ≡ []
    observed_none p g e = rw e

  -- with nothing sent no packet is observed, whatever stands in the buffer
  pub observed_nothing_sent : (e : Event) (g : Reply (Contract v e l)) → g.answer.sent ≡ 0 → (observed_by v e l g).packets ≡ []
  observed_nothing_sent e g z = rw z

-- a list where a number was answered is none where it never was
pub answered_once : (t : Observed) → Never t.code (codes (t ∷ [])) → ⊥
answered_once t n = n.0 refl

-- ---- what the table says
-- of a refusal: its number, no packet, the buffer and the link as they were
pub table_refusal : (e : Event) (m : Model) (c : ℕ) → observed_of e (refuse m c)
    ≡ record { code = c; upper_reset = false; packets = []; reply = buffer_of e; delivered = []; after = m }
unfolding flatten
table_refusal e m c = refl

-- of an arrival that delivers: the payload behind the control octet
pub table_payload : (x : ℕ) (p b : Octets) (m : Model)
    → (observed_of (arrival (data_packet x p) b) (record { code = done; upper_reset = false; delivered = true; packets = []; after = m })).delivered ≡ p ∷ []
table_payload x p b m = refl

-- a queue of one place, and a reply buffer that is just long enough for it
abbrev places : ℕ
places = 1

abbrev buffer : Octets
buffer = replicate (places * max_packet) 99

-- that buffer with these octets in place of its first
abbrev one : ℕ → Octets
one x = x ∷ replicate 256 99

abbrev two : ℕ → ℕ → Octets
two x y = x ∷ y ∷ replicate 255 99

-- the DACK of the first payload, in either edition
abbrev first : Edition → ℕ
first edition1 = 1
first edition2 = 0

-- a fresh link is started, its timer sends RESET, RESET_ACK opens it; a payload is queued and sent, a second is refused, the timer sends the first
-- again and a DACK takes it off; DATA that arrives is delivered and answered with a DACK, and the same again is answered only; RESET clears the link
abbrev events : Edition → List Event
events d =
    start buffer
    ∷ timer buffer
    ∷ arrival reset_ack_packet buffer
    ∷ payload (7 ∷ []) buffer
    ∷ payload (8 ∷ []) buffer
    ∷ timer buffer
    ∷ arrival (dack_packet (first d)) buffer
    ∷ arrival (data_packet 0 (5 ∷ 6 ∷ [])) buffer
    ∷ arrival (data_packet 0 (5 ∷ 6 ∷ [])) buffer
    ∷ arrival reset_packet buffer
    ∷ []

-- a call that tells the upper layer no reset
abbrev observed : ℕ → Packets → Octets → Packets → Model → Observed
observed c sent reply delivered m = record { code = c; upper_reset = false; packets = sent; reply = reply; delivered = delivered; after = m }

-- the links on the way: with the payload queued, with it acknowledged, and with the DATA received
abbrev waiting : Edition → Model
waiting d = rebuilt (fresh d) Wait ((7 ∷ []) ∷ []) 0 0

abbrev emptied : Edition → Model
emptied d = rebuilt (fresh d) Data [] 1 0

abbrev received : Edition → Model
received d = rebuilt (fresh d) Data [] 1 1

pub table_trace_lem : (d : Edition) → table_trace places (events d) (fresh d)
    ≡ observed done [] buffer [] (in_state Reset (fresh d))
    ∷ observed done ((0x10 ∷ []) ∷ []) (one 0x10) [] (in_state Reset (fresh d))
    ∷ observed done [] buffer [] (opened d)
    ∷ observed done ((0x40 ∷ 7 ∷ []) ∷ []) (two 0x40 7) [] (waiting d)
    ∷ observed queue_full [] buffer [] (waiting d)
    ∷ observed done ((0x40 ∷ 7 ∷ []) ∷ []) (two 0x40 7) [] (waiting d)
    ∷ observed done [] buffer [] (emptied d)
    ∷ observed done (((0x50 + first d) ∷ []) ∷ []) (one (0x50 + first d)) ((5 ∷ 6 ∷ []) ∷ []) (received d)
    ∷ observed other_number (((0x50 + first d) ∷ []) ∷ []) (one (0x50 + first d)) [] (received d)
    ∷ record { code = done; upper_reset = true; packets = (0x20 ∷ []) ∷ []; reply = one 0x20; delivered = []; after = opened d }
    ∷ []
unfolding start_of timer_of payload_of arrival_of flatten
table_trace_lem edition1 = refl
table_trace_lem edition2 = refl
