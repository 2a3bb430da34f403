-- Worked cases on the step table, by computation: each row where it has an entry and where it has none. A name is the row's and what it says.
-- Queues here have three places. What sends or takes no DACK is so in both editions. Assumes nothing.
use Prim.Native.Nat.{ℕ, ◌+◌, ◌-◌, ◌*◌}
use mathlib.Core.Path.{◌≡◌, refl}
use mathlib.Core.Bool.{true, false}
use mathlib.Core.List.{List, [], ◌∷◌, map, flatten}
use lib.ListN.{replicate}
use Rattle.dlc_packet.specs.Numbers.{Edition, edition1, edition2}
use Rattle.dlc_packet.specs.Packet.{max_payload, max_packet, reset_packet, reset_ack_packet, data_packet, dack_packet}
use Rattle.dlc_table.specs.declared.State.TheVariants.{Reset, Data, Wait}
use Rattle.dlc_table.specs.Answers.{done, not_open, payload_too_long, queue_full, bad_packet, no_entry, other_number, reply_too_small, bad_link, bad_edition}
use Rattle.dlc_table.specs.Model.{Model, rebuilt, in_state, fresh, opened}
use Rattle.dlc_table.specs.Events.{Effect, effect, refuse, made_of, start_of, timer_of, payload_of, arrival_of}
use Rattle.dlc_table.specs.Runs.{Event, start, timer, payload, arrival, effects, model_after}

abbrev places : ℕ
places = 3

-- a reply buffer that is just long enough
abbrev room : ℕ
room = places * max_packet

-- a link in DLRESET
abbrev resetting : Edition → Model
resetting d = in_state Reset (fresh d)

-- a link in DLDWAIT: the payloads 1 and 2 with the numbers 14 and 15
abbrev waiting : Edition → Model
waiting d = rebuilt (fresh d) Wait ((1 ∷ []) ∷ (2 ∷ []) ∷ []) 14 3

-- and with 3 behind them, number 0: as many as there are places
abbrev full : Edition → Model
full d = rebuilt (waiting d) Wait ((1 ∷ []) ∷ (2 ∷ []) ∷ (3 ∷ []) ∷ []) 14 3

-- ---- a refusal: its number and nothing else, for the links below as for every one
pub refusal_changes_nothing : (m : Model) (c : ℕ) → refuse m c ≡ record { code = c; upper_reset = false; delivered = false; packets = []; after = m }
refusal_changes_nothing m c = refl

-- ---- a link is made
pub made_1 : made_of 1 ≡ effect done [] (fresh edition1)
unfolding made_of
made_1 = refl

pub made_2 : made_of 2 ≡ effect done [] (fresh edition2)
unfolding made_of
made_2 = refl

-- an edition that is neither: 28, and edition 1's fresh link
pub made_0 : made_of 0 ≡ refuse (fresh edition1) bad_edition
unfolding made_of
made_0 = refl

pub made_3 : made_of 3 ≡ refuse (fresh edition1) bad_edition
unfolding made_of
made_3 = refl

module _ (d : Edition) where
  -- ---- RESET: clear. The edition is kept
  pub reset_clears : arrival_of places (waiting d) reset_packet room
      ≡ record { code = done; upper_reset = true; delivered = false; packets = reset_ack_packet ∷ []; after = opened d }
  unfolding arrival_of
  reset_clears = refl

  -- ---- start
  pub start_to_reset : start_of places (fresh d) room ≡ effect done [] (resetting d)
  unfolding start_of
  start_to_reset = refl

  pub start_none : start_of places (waiting d) room ≡ refuse (waiting d) no_entry
  unfolding start_of
  start_none = refl

  -- ---- RESET_ACK
  pub reset_ack_opens : arrival_of places (resetting d) reset_ack_packet room ≡ effect done [] (opened d)
  unfolding arrival_of
  reset_ack_opens = refl

  pub reset_ack_none : arrival_of places (waiting d) reset_ack_packet room ≡ refuse (waiting d) no_entry
  unfolding arrival_of
  reset_ack_none = refl

  -- ---- DATA and DACK where they have no entry
  pub data_none : arrival_of places (resetting d) (data_packet 0 (7 ∷ [])) room ≡ refuse (resetting d) no_entry
  unfolding arrival_of
  data_none = refl

  pub dack_none : arrival_of places (opened d) (dack_packet 1) room ≡ refuse (opened d) no_entry
  unfolding arrival_of
  dack_none = refl

  -- ---- timer
  pub timer_sends_reset : timer_of places (resetting d) room ≡ effect done (reset_packet ∷ []) (resetting d)
  unfolding timer_of
  timer_sends_reset = refl

  -- all are sent, oldest first, and none is removed
  pub timer_sends_all : timer_of places (waiting d) room ≡ effect done ((0x4E ∷ 1 ∷ []) ∷ (0x4F ∷ 2 ∷ []) ∷ []) (waiting d)
  unfolding timer_of
  timer_sends_all = refl

  pub timer_none : timer_of places (opened d) room ≡ refuse (opened d) no_entry
  unfolding timer_of
  timer_none = refl

  -- ---- payload: queue, and send it alone, with the number behind those of the others
  pub payload_to_wait : payload_of places (opened d) (7 ∷ []) room ≡ effect done ((0x40 ∷ 7 ∷ []) ∷ []) (rebuilt (opened d) Wait ((7 ∷ []) ∷ []) 0 0)
  unfolding payload_of
  payload_to_wait = refl

  pub payload_behind : payload_of places (waiting d) (3 ∷ []) room ≡ effect done ((0x40 ∷ 3 ∷ []) ∷ []) (full d)
  unfolding payload_of
  payload_behind = refl

  pub payload_not_open : payload_of places (resetting d) (7 ∷ []) room ≡ refuse (resetting d) not_open
  unfolding payload_of
  payload_not_open = refl

  -- a payload more than there are places answers 22
  pub payload_full : payload_of places (full d) (7 ∷ []) room ≡ refuse (full d) queue_full
  unfolding payload_of
  payload_full = refl

  -- ---- refusals in order: a packet is bad before the state is looked at, 26 comes before 21, and 21 before 20
  pub arrival_empty : arrival_of places (fresh d) [] room ≡ refuse (fresh d) bad_packet
  unfolding arrival_of
  arrival_empty = refl

  pub payload_too_long_lem : payload_of places (fresh d) (replicate (max_payload + 1) 7) room ≡ refuse (fresh d) payload_too_long
  unfolding payload_of
  payload_too_long_lem = refl

  pub payload_short_reply : payload_of places (fresh d) (replicate (max_payload + 1) 7) (room - 1) ≡ refuse (fresh d) reply_too_small
  unfolding payload_of
  payload_short_reply = refl

-- an ill-formed value answers 27 before all else
pub arrival_ill_formed : (m : Model) → m.ok ≡ false → arrival_of places m [] 0 ≡ refuse m bad_link
unfolding arrival_of
arrival_ill_formed m e = rw e

-- ---- DATA: judge
-- the awaited number: delivered, and the DACK carries the number after it, in the second edition the number itself
module _ (d : Edition) (x : ℕ) where
  abbrev delivered : Effect
  delivered = record { code = done; upper_reset = false; delivered = true; packets = dack_packet x ∷ []; after = rebuilt (waiting d) Wait (waiting d).queue 14 4 }

pub data_awaited : arrival_of places (waiting edition1) (data_packet 3 (7 ∷ [])) room ≡ delivered edition1 4
unfolding arrival_of
data_awaited = refl

pub data_awaited_2 : arrival_of places (waiting edition2) (data_packet 3 (7 ∷ [])) room ≡ delivered edition2 3
unfolding arrival_of
data_awaited_2 = refl

-- another: a repeated DATA is answered as the last one was
pub data_other : arrival_of places (waiting edition1) (data_packet 2 (7 ∷ [])) room ≡ effect other_number (dack_packet 3 ∷ []) (waiting edition1)
unfolding arrival_of
data_other = refl

pub data_other_2 : arrival_of places (waiting edition2) (data_packet 2 (7 ∷ [])) room ≡ effect other_number (dack_packet 2 ∷ []) (waiting edition2)
unfolding arrival_of
data_other_2 = refl

-- "15 at the start": where nothing has come yet, DACK 15 is sent; the link's numbers stay 0
pub data_at_the_start : arrival_of places (opened edition1) (data_packet 1 (7 ∷ [])) room ≡ effect other_number (dack_packet 0 ∷ []) (opened edition1)
unfolding arrival_of
data_at_the_start = refl

pub data_at_the_start_2 : arrival_of places (opened edition2) (data_packet 1 (7 ∷ [])) room ≡ effect other_number (dack_packet 15 ∷ []) (opened edition2)
unfolding arrival_of
data_at_the_start_2 = refl

-- ---- DACK: remove
module _ (d : Edition) where
  -- the queue emptied, with the next number to be given 0; and with one payload less
  abbrev emptied : Effect
  emptied = effect done [] (rebuilt (waiting d) Data [] 0 3)

  abbrev one_less : Effect
  one_less = effect done [] (rebuilt (waiting d) Wait ((2 ∷ []) ∷ []) 15 3)

-- DACK 0 empties the queue, DACK 15 removes one, DACK 1 and DACK 14 answer 24
pub dack_0 : arrival_of places (waiting edition1) (dack_packet 0) room ≡ emptied edition1
unfolding arrival_of
dack_0 = refl

pub dack_15 : arrival_of places (waiting edition1) (dack_packet 15) room ≡ one_less edition1
unfolding arrival_of
dack_15 = refl

pub dack_1 : arrival_of places (waiting edition1) (dack_packet 1) room ≡ refuse (waiting edition1) no_entry
unfolding arrival_of
dack_1 = refl

pub dack_14 : arrival_of places (waiting edition1) (dack_packet 14) room ≡ refuse (waiting edition1) no_entry
unfolding arrival_of
dack_14 = refl

-- in the second edition DACK 15 empties the queue, DACK 14 removes one, DACK 0 and DACK 13 answer 24
pub dack_15_2 : arrival_of places (waiting edition2) (dack_packet 15) room ≡ emptied edition2
unfolding arrival_of
dack_15_2 = refl

pub dack_14_2 : arrival_of places (waiting edition2) (dack_packet 14) room ≡ one_less edition2
unfolding arrival_of
dack_14_2 = refl

pub dack_0_2 : arrival_of places (waiting edition2) (dack_packet 0) room ≡ refuse (waiting edition2) no_entry
unfolding arrival_of
dack_0_2 = refl

pub dack_13_2 : arrival_of places (waiting edition2) (dack_packet 13) room ≡ refuse (waiting edition2) no_entry
unfolding arrival_of
dack_13_2 = refl

-- ---- a list of events: a fresh link is started, its timer sends RESET, RESET_ACK opens it, a payload is queued and sent, and the timer sends it again
abbrev buffer : List ℕ
buffer = replicate room 0

abbrev events : List Event
events = start buffer ∷ timer buffer ∷ arrival reset_ack_packet buffer ∷ payload (7 ∷ []) buffer ∷ timer buffer ∷ []

module _ (d : Edition) where
  pub run_codes : map (λ (e : Effect). e.code) (effects places events (fresh d)) ≡ done ∷ done ∷ done ∷ done ∷ done ∷ []
  unfolding start_of timer_of payload_of arrival_of
  run_codes = refl

  pub run_packets : flatten (map (λ (e : Effect). e.packets) (effects places events (fresh d)))
      ≡ reset_packet ∷ data_packet 0 (7 ∷ []) ∷ data_packet 0 (7 ∷ []) ∷ []
  unfolding start_of timer_of payload_of arrival_of flatten
  run_packets = refl

  pub run_model : model_after places events (fresh d) ≡ rebuilt (fresh d) Wait ((7 ∷ []) ∷ []) 0 0
  unfolding start_of timer_of payload_of arrival_of
  run_model = refl
