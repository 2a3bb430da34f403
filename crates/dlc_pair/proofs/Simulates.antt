-- What the theorems ask of the step table with a limit of places: at the model of an end, each call does what the packet system's end does.
-- Assumes nothing.
--
-- rules are those of the packet system, model_of gives the model of a link that stands where one of its ends does. Every theorem about two ends is
-- proved of whatever rules and model_of meet this; demand 3 and progress ask besides that the rules are lawful. Effects shows it of the link as it
-- is, and no other file opens the table.
use Prim.Native.Nat.{ℕ, ◌*◌}
use mathlib.Core.Path.{◌≡◌}
use mathlib.Core.Bool.{Bool, cond, not, ◌&&◌}
use mathlib.Core.List.{List, [], ◌∷◌}
use lib.ListN.{length}
use lib.Dec.{ltb, eqb}
use Rattle.dlc_table.specs.Answers.{done, reply_too_small}
use Rattle.dlc_table.specs.Model.{Model}
use Rattle.dlc_table.specs.Events.{Effect, start_of, timer_of, payload_of, arrival_of}
use Rattle.dlc_packet.specs.Packet.{max_payload, max_packet}
use Rattle.dlc_answer.specs.Delivered.{delivered_part}
use Rattle.dlc.specs.Calls.{answer_of}
use Rattle.dlc.proofs.Values.{Fits}
use Rattle.dlc_run.specs.Replies.{Octets, Packets, accepted_by}
use Rattle.window.specs.Packets.{Packet, data_pdu, dack_pdu}
use Rattle.window.specs.Ends.{Rules, End as Peer, lost_one, apply_dack, with_sender, accept, send_all, take_data}
use Rattle.window.specs.Events.{fresh}
use Rattle.dlc_pair.specs.World.{one}
use Rattle.dlc_pair.proofs.Codec.{encode, Sound, data_bit, dack_bit}
use Rattle.dlc_pair.proofs.Relation.{relined_peer}
use Rattle.dlc_pair.proofs.OneCall.{Becomes}

-- a reply buffer that every call refuses
abbrev pub too_short : ℕ → Octets → Bool
too_short limit before = ltb (length before) (limit * max_packet)

-- a payload and a reply buffer that are not refused for what they are
abbrev pub passes : ℕ → Octets → Octets → Bool
passes limit p before = not (too_short limit before) && not (ltb max_payload (length p))

-- what an effect delivers of the packet k, and whether a packet that counts is lost by it
abbrev pub delivered_when : Packet → Effect → Packets
delivered_when k d = cond (data_bit k && eqb d.code done) (delivered_part d.delivered (encode k) ∷ []) []

abbrev pub lost_when : Bool → Effect → ℕ
lost_when counts d = one (counts && eqb d.code reply_too_small)

-- the packet system's end after a call; the Bool says whether the call passes the refusals that go by what is lent to it
abbrev pub offered : Rules → Bool → Octets → Peer → Peer
offered r ok p a = cond (ok && ltb (length a.sender.queue) r.window) (accept r p a) a

abbrev pub timed_out : Rules → Bool → Peer → Peer
timed_out r ok a = cond (ok && ltb 0 (length a.sender.queue)) (send_all r a) a

-- a packet that is refused is lost, and a DACK counts for the end that it was sent to
abbrev pub reached : Rules → Bool → Packet → Peer → Peer
reached r ok (data_pdu x p) a = cond ok (take_data r (eqb x a.receiver.expected) p a) a
reached r ok (dack_pdu x) a = with_sender (cond ok (apply_dack (r.distance a.sender.base x) a.sender) (lost_one a.sender)) a

-- calls whose effect is d: one to which the reply buffer alone is lent, one that brings the payload p, one that brings the packet k
abbrev pub Bare : (Peer → Model) → Effect → Peer → Peer → Type 0
Bare model_of d a b = Becomes model_of d a b [] [] 0

abbrev pub Offer : (Peer → Model) → Octets → Effect → Peer → Peer → Type 0
Offer model_of p d a b = Becomes model_of d a b (accepted_by p (answer_of d)) [] 0

abbrev pub Arrival : (Peer → Model) → Packet → Effect → Peer → Peer → Type 0
Arrival model_of k d a b = Becomes model_of d a b [] (delivered_when k d) (lost_when (dack_bit k) d)

pub record Simulates (limit : ℕ) (rules : Rules) (model_of : Peer → Model) : Type 0 where
  pub window : rules.window ≡ limit
  -- a link can hold the model of a fresh end
  pub holds : Fits (model_of fresh)
  -- a model has the end's queue; the line, and how much was lost, are no part of it
  pub queue : (a : Peer) → (model_of a).queue ≡ a.sender.queue
  pub relined : (ks : List Packet) (n : ℕ) (a : Peer) → model_of (relined_peer ks n a) ≡ model_of a
  -- the calls
  pub start : (a : Peer) (before : Octets) → Bare model_of (start_of limit (model_of a) (length before)) a a
  pub timer : (a : Peer) → Fits (model_of a) → (before : Octets)
      → Bare model_of (timer_of limit (model_of a) (length before)) a (timed_out rules (not (too_short limit before)) a)
  pub payload : (a : Peer) (p before : Octets)
      → Offer model_of p (payload_of limit (model_of a) p (length before)) a (offered rules (passes limit p before) p a)
  pub arrival : (a : Peer) → Fits (model_of a) → (k : Packet) → Sound k → (before : Octets)
      → Arrival model_of k (arrival_of limit (model_of a) (encode k) (length before)) a (reached rules (not (too_short limit before)) k a)
  -- 26 is what a short buffer is answered, and nothing else
  pub refused : (a : Peer) (k : Packet) → Sound k → (before : Octets)
      → eqb (arrival_of limit (model_of a) (encode k) (length before)).code reply_too_small ≡ too_short limit before
