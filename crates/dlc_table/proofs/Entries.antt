-- What is so of every entry of the step table is so of every event. Whoever shows something of all events goes by these cases, with what is known
-- where each applies, and does not open the table. Assumes nothing.
--
--   Entries limit m P   P holds of each entry, at the link m
--   event_entries       then it holds of whatever an event does there
use Prim.Native.Nat.{ℕ, ◌*◌, ◌<◌, ◌≤◌}
use native.Mathlib.Omega.{arith}
use mathlib.Core.Path.{◌≡◌, refl, sym, ap, ◌∙◌}
use mathlib.Core.Logic.{◌≢◌}
use mathlib.Core.Bool.{Bool, true, false, not, ◌&&◌, false≢true}
use mathlib.Core.List.{List, [], ◌∷◌, ◌++◌}
use lib.ListN.{length}
use lib.Dec.{leb, ltb, eqb}
use borrow.Author.Tests.{ltb-true, ltb-false, leb-true, leb-false}
use Rattle.common.specs.Refusals.{Refusal, guarded}
use Rattle.common.proofs.Bools.{either, and_both}
use Rattle.dlc_packet.specs.Packet.{max_payload, max_packet, reset_packet, data_packets, kind_of}
use Rattle.dlc_packet.specs.declared.Kind.{Kind}
use Rattle.dlc_packet.specs.declared.Kind.TheVariants.{Invalid, Reset as ResetKind, ResetAck, Data as DataKind, Dack}
use Rattle.dlc_table.specs.declared.State.{State}
use Rattle.dlc_table.specs.declared.State.TheVariants.{Idle, Reset, Data, Wait}
use Rattle.dlc_table.specs.Answers.{done, not_open, payload_too_long, queue_full, bad_packet, no_entry, reply_too_small, bad_link, refuses}
use Rattle.dlc_table.specs.Model.{Model, in_state}
use Rattle.dlc_table.specs.Events.{Effect, effect, refuse, cleared, start_step, reset_ack_step, judged, data_step, without, distance_of, dack_step, timer_step, queued}
use Rattle.dlc_table.specs.Events.{is_open, packet_step, call_refusals, payload_refusals, start_of, timer_of, payload_of, arrival_of}
use Rattle.dlc_table.specs.Runs.{Event, start, timer, payload, arrival, effect_of}
use Rattle.dlc_table.proofs.Rows.{taken, other}

pub record Entries (limit : ℕ) (m : Model) (P : Effect → Type 0) : Type 0 where
  -- a refusal; 27 only where the link is not well formed, and no number above it
  pub refused : (c : ℕ) → refuses c ≡ true → c ≤ bad_link → (m.ok ≡ true → c ≢ bad_link) → P (refuse m c)
  -- RESET
  pub clears : P (cleared m)
  -- start in DLIDLE, RESET_ACK in DLRESET
  pub starts : m.state ≡ Idle → P (effect done [] (in_state Reset m))
  pub opens : m.state ≡ Reset → P (effect done [] (in_state Data m))
  -- DATA in DLDATA and DLDWAIT
  pub delivers : is_open m.state ≡ true → P (taken m)
  pub repeats : is_open m.state ≡ true → P (other m)
  -- DACK in DLDWAIT
  pub removes : (n : ℕ) → m.state ≡ Wait → 0 < n → n ≤ length m.queue → P (effect done [] (without m n))
  -- the timer in DLRESET and in DLDWAIT
  pub asks : m.state ≡ Reset → P (effect done (reset_packet ∷ []) m)
  pub sends : m.state ≡ Wait → P (effect done (data_packets m.base m.queue) m)
  -- a payload in DLDATA and DLDWAIT
  pub queues : (p : List ℕ) → is_open m.state ≡ true → length p ≤ max_payload → length m.queue < limit → P (queued m p)

not-false : (b : Bool) → not b ≡ false → b ≡ true
not-false true e = refl
not-false false e = sym e

module _ {limit : ℕ} {m : Model} {P : Effect → Type 0} (h : Entries limit m P) where
  none : P (refuse m no_entry)
  none = h.refused no_entry refl (omega arith) (λ _ e. omega (arith, e))

  start_entry : (s : State) → m.state ≡ s → P (start_step m s)
  start_entry Idle e = h.starts e
  start_entry Reset e = none
  start_entry Data e = none
  start_entry Wait e = none

  timer_entry : (s : State) → m.state ≡ s → P (timer_step m s)
  timer_entry Idle e = none
  timer_entry Reset e = h.asks e
  timer_entry Data e = none
  timer_entry Wait e = h.sends e

  reset_ack_entry : (s : State) → m.state ≡ s → P (reset_ack_step m s)
  reset_ack_entry Idle e = none
  reset_ack_entry Reset e = h.opens e
  reset_ack_entry Data e = none
  reset_ack_entry Wait e = none

  judged_entry : (x : ℕ) → is_open m.state ≡ true → P (judged m x)
  judged_entry x o = either P (eqb x m.expected) (λ _. h.delivers o) (λ _. h.repeats o)

  data_entry : (s : State) → m.state ≡ s → (x : ℕ) → P (data_step m s x)
  data_entry Idle e x = none
  data_entry Reset e x = none
  data_entry Data e x = judged_entry x (ap is_open e)
  data_entry Wait e x = judged_entry x (ap is_open e)

  dack_entry : (s : State) → m.state ≡ s → (x : ℕ) → P (dack_step m s x)
  dack_entry Idle e x = none
  dack_entry Reset e x = none
  dack_entry Data e x = none
  dack_entry Wait e x =
      let n : ℕ = distance_of m x in
      either P (ltb 0 n && leb n (length m.queue))
      (λ t. let range = and_both (ltb 0 n) (leb n (length m.queue)) t in h.removes n e (ltb-true _ _ range.0) (leb-true _ _ range.1))
      (λ _. none)

  packet_entry : (k : Kind) → P (packet_step m k)
  packet_entry Invalid = h.refused bad_packet refl (omega arith) (λ _ e. omega (arith, e))
  packet_entry ResetKind = h.clears
  packet_entry ResetAck = reset_ack_entry m.state refl
  packet_entry (DataKind x) = data_entry m.state refl x
  packet_entry (Dack x) = dack_entry m.state refl x

  payload_entry : (p : List ℕ) → P (guarded (payload_refusals limit m p) (refuse m) (queued m p))
  payload_entry p =
      either P (ltb max_payload (length p)) (λ _. h.refused payload_too_long refl (omega arith) (λ _ e. omega (arith, e)))
      (λ short. either P (not (is_open m.state)) (λ _. h.refused not_open refl (omega arith) (λ _ e. omega (arith, e)))
      (λ up. either P (leb limit (length m.queue)) (λ _. h.refused queue_full refl (omega arith) (λ _ e. omega (arith, e)))
      (λ room. h.queues p (not-false (is_open m.state) up) (ltb-false max_payload (length p) short) (leb-false limit (length m.queue) room))))

  -- behind the two refusals that all calls share; bad says that the link is not well formed
  shared : (bad short : Bool) (ts : List Refusal) (d : Effect) → bad ≡ not m.ok → P (guarded ts (refuse m) d)
      → P (guarded ((bad, bad_link) ∷ (short, reply_too_small) ∷ ts) (refuse m) d)
  shared true short ts d e row = h.refused bad_link refl (omega arith) (λ ok. absurd (false≢true (sym (e ∙ ap not ok))))
  shared false true ts d e row = h.refused reply_too_small refl (omega arith) (λ _ z. omega (arith, z))
  shared false false ts d e row = row

  call_entry : (room : ℕ) (ts : List Refusal) (d : Effect) → P (guarded ts (refuse m) d) → P (guarded (call_refusals limit m room ++ ts) (refuse m) d)
  call_entry room ts d row = shared (not m.ok) (ltb room (limit * max_packet)) ts d refl row

  pub event_entries : (e : Event) → P (effect_of limit e m)
  unfolding start_of timer_of payload_of arrival_of
  event_entries (start before) = call_entry (length before) [] (start_step m m.state) (start_entry m.state refl)
  event_entries (timer before) = call_entry (length before) [] (timer_step m m.state) (timer_entry m.state refl)
  event_entries (payload p before) = call_entry (length before) (payload_refusals limit m p) (queued m p) (payload_entry p)
  event_entries (arrival packet before) = call_entry (length before) [] (packet_step m (kind_of packet)) (packet_entry (kind_of packet))
