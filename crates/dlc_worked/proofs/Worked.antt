-- A worked run with losses, repeats, refusals and a restart of the numbers, and a run that meets the bound with equality. What is said holds of
-- EVERY history of these events; the packet system's run is computed. Assumes nothing.
use Prim.Native.Nat.{ℕ, ◌+◌, ◌-◌, ◌*◌, ◌%◌}
use mathlib.Core.Path.{◌≡◌, refl, sym, ap, ◌∙◌}
use mathlib.Core.List.{List, [], ◌∷◌, ◌++◌, map}
use lib.Dec.{T}
use lib.ListN.{length, replicate}
use Rattle.dlc_packet.specs.Numbers.{Edition, edition1, edition2}
use Rattle.dlc_table.specs.Model.{Model}
use Rattle.dlc.specs.Limits.{modulus, slots, max_payload}
use Rattle.dlc_run.specs.Replies.{Octets, Packets}
use Rattle.window.specs.Sides.{Side, left, right, Both}
use Rattle.window.specs.Ends.{Rules, End as Peer}
use Rattle.window.specs.Events.{start as packet_start}
use Rattle.window.proofs.Deciding.{timer_waits, timer_waits-true}
use Rattle.dlc_pair.specs.World.{World, data_sent, initial}
use Rattle.dlc_pair.specs.History.{payload, timer, arrival, loss, Event, after, History, final, TimerWaits}
use Rattle.dlc_pair.specs.Demand3.{BothOpen}
use Rattle.dlc_pair.specs.Rules.{rules}
use Rattle.dlc_pair.proofs.Relation.{BothFollow}
use Rattle.dlc_pair.proofs.Simulates.{Simulates}
use Rattle.dlc_pair.proofs.Effects.{simulates}
use Rattle.dlc_pair.proofs.Demand3.{open_follow}
use Rattle.dlc_pair.proofs.Runs.{event_of, run_of, run_follows, timer_waits-back}
use Rattle.dlc_worked.specs.Script.{buffer, at, payloads_from, offered, arrivals}

-- ---- at an empty line an arrival and a loss change nothing; L is a type of links, v its view
pub arrival_nothing : {L : Type 0} (v : L → Model) (l l' : L) (before : Octets) → after v (arrival before) (initial l l') tt ≡ initial l l'
arrival_nothing v l l' before = refl

pub loss_nothing : {L : Type 0} (v : L → Model) (l l' : L) (n : ℕ) → after v (loss n) (initial l l') tt ≡ initial l l'
loss_nothing v l l' n = refl

-- ---- what a run gives, of every history of its events; of whatever rules and models the step table simulates
module _ {rules : Rules} {model_of : Peer → Model} (table : Simulates slots rules model_of) {L : Type 0} {v : L → Model} {w : World L}
    (f : BothFollow model_of v w packet_start) (es : List Event) (h : History v es w) where
  followed : BothFollow model_of v (final v es w h) (run_of slots rules es packet_start)
  followed = run_follows table es f h

  waited : (d : Side) → T (timer_waits rules d (map (event_of slots) es) packet_start) → TimerWaits v d es w h
  waited d t = timer_waits-back table d es f h (timer_waits-true rules d (map (event_of slots) es) packet_start t)

-- ---- the packet system's run, by computation in each edition
module _ (es : List Event) (d : Edition) where
  abbrev ends : Both Peer
  ends = run_of slots (rules d slots) es packet_start

  abbrev Waited : Side → Type 0
  Waited side = T (timer_waits (rules d slots) side (map (event_of slots) es) packet_start)

-- what came of a run from one end to the other
record OneWay (a a' : Peer) (ps qs : Packets) (n k b : ℕ) : Type 0 where
  accepted : a.sender.accepted ≡ ps
  delivered : a'.receiver.delivered ≡ qs
  sent : a.sender.sent ≡ n
  lost : a.sender.lost ≡ k
  base : a.sender.base ≡ b

-- ---- events
-- as many payloads as there are slots are offered, each sent as it is accepted, and delivered and acknowledged; no timer is called
abbrev whole_round : ℕ → List Event
whole_round n = offered buffer (payloads_from slots n) ++ arrivals buffer slots right ++ arrivals buffer slots left

-- the queue is filled, each payload sent as it is accepted; then 22, 26, 21 are answered and an arrival finds nothing. The third is lost; two are
-- delivered. With the line drained a timer call answers 26; the next sends those that are left again, and the first is refused by a short buffer:
-- 26, lost. They are sent once more and delivered, and a last timer call answers 24
abbrev lossy_round : List Event
lossy_round =
    offered buffer (payloads_from slots 1)
    ++ (at left (payload (9 ∷ []) buffer) ∷ at left (payload (9 ∷ []) []) ∷ [])
    ++ (at left (payload (replicate (max_payload + 1) 9) buffer) ∷ at left (arrival buffer) ∷ at left (loss 2) ∷ at left (loss 50) ∷ [])
    ++ arrivals buffer (slots - 1) right ++ arrivals buffer (slots - 1) left
    ++ (at left (timer []) ∷ at left (timer buffer) ∷ at right (arrival []) ∷ [])
    ++ arrivals buffer (slots - 3) right ++ arrivals buffer (slots - 3) left
    ++ (at left (timer buffer) ∷ [])
    ++ arrivals buffer (slots - 2) right ++ arrivals buffer (slots - 2) left
    ++ (at left (timer buffer) ∷ [])

abbrev pub worked_events : List Event
worked_events = lossy_round ++ whole_round (slots + 1) ++ whole_round (2 * slots + 1)

pub worked-length : length worked_events ≡ 13 * slots - 1
worked-length = refl

-- as many payloads as three queues hold are accepted and delivered. 2 packets are lost, and all of the first queue but two payloads is sent three
-- times; the numbers have begun again
pub record Worked {L : Type 0} (v : L → Model) (l l' : L) (h : History v worked_events (initial l l')) : Type 0 where
  pub accepted : (final v worked_events (initial l l') h).left.accepted ≡ payloads_from (3 * slots) 1
  pub delivered : (final v worked_events (initial l l') h).right.delivered ≡ payloads_from (3 * slots) 1
  pub sent : data_sent (final v worked_events (initial l l') h).left ≡ 5 * slots - 4
  pub lost : (final v worked_events (initial l l') h).left.lost ≡ 2
  pub base : (v (final v worked_events (initial l l') h).left.link).base ≡ (3 * slots) % modulus
  pub waits : TimerWaits v left worked_events (initial l l') h

-- the payloads queue by queue; compared with the run as one list they would take too many steps
abbrev three_queues : Packets
three_queues = payloads_from slots 1 ++ payloads_from slots (slots + 1) ++ payloads_from slots (2 * slots + 1)

three_queues_lem : three_queues ≡ payloads_from (3 * slots) 1
three_queues_lem = refl

worked_run : (d : Edition) → OneWay (ends worked_events d).left (ends worked_events d).right three_queues three_queues (5 * slots - 4) 2 ((3 * slots) % modulus)
worked_run edition1 = record { accepted = refl; delivered = refl; sent = refl; lost = refl; base = refl }
worked_run edition2 = record { accepted = refl; delivered = refl; sent = refl; lost = refl; base = refl }

worked_waits : (d : Edition) → Waited worked_events d left
worked_waits edition1 = tt
worked_waits edition2 = tt

pub worked : {L : Type 0} (v : L → Model) (l l' : L) → BothOpen v l l' → (h : History v worked_events (initial l l')) → Worked v l l' h
worked v l l' o h =
    let d = (v l).edition in
    let table = simulates d slots in
    let f = followed table (open_follow o) worked_events h in
    let came = worked_run d in
    record {
      accepted = f.left.accepted ∙ came.accepted ∙ three_queues_lem;
      delivered = f.right.delivered ∙ came.delivered ∙ three_queues_lem;
      sent = f.left.sent ∙ came.sent;
      lost = f.left.lost ∙ came.lost;
      base = ap (λ (m : Model). m.base) f.left.model ∙ came.base;
      waits = waited table (open_follow o) worked_events h left (worked_waits d);
    }

-- ---- the queue is filled, each payload sent as it is accepted, and the first is lost; the others are answered by 25, and the timer sends all again:
-- the bound is met, so it cannot be lowered
abbrev pub tight_events : List Event
tight_events =
    offered buffer (payloads_from slots 1)
    ++ (at left (loss 0) ∷ [])
    ++ arrivals buffer (slots - 1) right ++ arrivals buffer (slots - 1) left
    ++ (at left (timer buffer) ∷ [])

pub record Tight {L : Type 0} (v : L → Model) (l l' : L) (h : History v tight_events (initial l l')) : Type 0 where
  pub sent : data_sent (final v tight_events (initial l l') h).left ≡ 2 * slots
  pub accepted : (final v tight_events (initial l l') h).left.accepted ≡ payloads_from slots 1
  pub lost : (final v tight_events (initial l l') h).left.lost ≡ 1
  pub bound : data_sent (final v tight_events (initial l l') h).left
      ≡ length (final v tight_events (initial l l') h).left.accepted + slots * (final v tight_events (initial l l') h).left.lost
  pub waits : TimerWaits v left tight_events (initial l l') h

tight_run : (d : Edition) → OneWay (ends tight_events d).left (ends tight_events d).right (payloads_from slots 1) [] (2 * slots) 1 0
tight_run edition1 = record { accepted = refl; delivered = refl; sent = refl; lost = refl; base = refl }
tight_run edition2 = record { accepted = refl; delivered = refl; sent = refl; lost = refl; base = refl }

tight_waits : (d : Edition) → Waited tight_events d left
tight_waits edition1 = tt
tight_waits edition2 = tt

pub tight : {L : Type 0} (v : L → Model) (l l' : L) → BothOpen v l l' → (h : History v tight_events (initial l l')) → Tight v l l' h
tight v l l' o h =
    let d = (v l).edition in
    let table = simulates d slots in
    let f = followed table (open_follow o) tight_events h in
    let came = tight_run d in
    let sent = f.left.sent ∙ came.sent in
    let accepted = f.left.accepted ∙ came.accepted in
    let lost = f.left.lost ∙ came.lost in
    record {
      sent = sent;
      accepted = accepted;
      lost = lost;
      bound = sent ∙ sym (λ i. length (accepted i) + slots * lost i);
      waits = waited table (open_follow o) tight_events h left (tight_waits d);
    }

-- ---- both ends send, and each end's DATA is lost once. Each timer is called while the other end's DATA is on the line, and its premise holds: it
-- asks for none of its own DATA and no DACK to it, and nothing else
abbrev pub duplex_events : List Event
duplex_events =
    at left (payload (1 ∷ []) buffer)
    ∷ at right (payload (2 ∷ []) buffer)
    ∷ at left (loss 0)
    ∷ at left (timer buffer)
    ∷ at right (loss 0)
    ∷ at right (timer buffer)
    ∷ at right (arrival buffer)
    ∷ at left (arrival buffer)
    ∷ at left (arrival buffer)
    ∷ at right (arrival buffer)
    ∷ []

pub record Duplex {L : Type 0} (v : L → Model) (l l' : L) (h : History v duplex_events (initial l l')) : Type 0 where
  pub left_to_right : (final v duplex_events (initial l l') h).right.delivered ≡ (1 ∷ []) ∷ []
  pub right_to_left : (final v duplex_events (initial l l') h).left.delivered ≡ (2 ∷ []) ∷ []
  pub left_sent : data_sent (final v duplex_events (initial l l') h).left ≡ 2
  pub left_lost : (final v duplex_events (initial l l') h).left.lost ≡ 1
  pub right_sent : data_sent (final v duplex_events (initial l l') h).right ≡ 2
  pub right_lost : (final v duplex_events (initial l l') h).right.lost ≡ 1
  pub left_waits : TimerWaits v left duplex_events (initial l l') h
  pub right_waits : TimerWaits v right duplex_events (initial l l') h

duplex_run : (d : Edition) → OneWay (ends duplex_events d).left (ends duplex_events d).right ((1 ∷ []) ∷ []) ((1 ∷ []) ∷ []) 2 1 1
    × OneWay (ends duplex_events d).right (ends duplex_events d).left ((2 ∷ []) ∷ []) ((2 ∷ []) ∷ []) 2 1 1
duplex_run edition1 = (record { accepted = refl; delivered = refl; sent = refl; lost = refl; base = refl }, record { accepted = refl; delivered = refl; sent = refl; lost = refl; base = refl })
duplex_run edition2 = (record { accepted = refl; delivered = refl; sent = refl; lost = refl; base = refl }, record { accepted = refl; delivered = refl; sent = refl; lost = refl; base = refl })

duplex_waits : (d : Edition) → Waited duplex_events d left × Waited duplex_events d right
duplex_waits edition1 = (tt, tt)
duplex_waits edition2 = (tt, tt)

pub duplex : {L : Type 0} (v : L → Model) (l l' : L) → BothOpen v l l' → (h : History v duplex_events (initial l l')) → Duplex v l l' h
duplex v l l' o h =
    let d = (v l).edition in
    let table = simulates d slots in
    let f = followed table (open_follow o) duplex_events h in
    let came = duplex_run d in
    record {
      left_to_right = f.right.delivered ∙ came.0.delivered;
      right_to_left = f.left.delivered ∙ came.1.delivered;
      left_sent = f.left.sent ∙ came.0.sent;
      left_lost = f.left.lost ∙ came.0.lost;
      right_sent = f.right.sent ∙ came.1.sent;
      right_lost = f.right.lost ∙ came.1.lost;
      left_waits = waited table (open_follow o) duplex_events h left (duplex_waits d).0;
      right_waits = waited table (open_follow o) duplex_events h right (duplex_waits d).1;
    }
