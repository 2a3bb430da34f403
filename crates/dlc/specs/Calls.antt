-- What each call on a link promises. Cited by the link's functions, and by whoever reasons about links. Assumes nothing.
--
--   MakeCall                                           the contract of the function that makes a link
--   StartCall, TimerCall, PayloadCall, ArrivalCall     the contracts of the four events
--
-- Each is over a type of links and its view: `Link` with `view` here, the link in plain numbers in dlc_plain. It takes the link that came, what was
-- lent, the reply buffer before and after the call, and the link and the answer given back. Answer, later link and later buffer are equations with
-- the step table (dlc_table/specs/Events) of as many places as the queue has slots. Free slots of the later queue (octets and lengths behind its payloads) are whatever they are, but on a refusal, where the very
-- link that came is given back; no answer depends on them (proofs/FreeSlots.antt).
use Rattle.std.specs.Prelude.{ℕ, ◌≡◌, Bool, true, length}
use mathlib.Core.List.{List, [], ◌∷◌, flatten}
use Rattle.common.specs.Buffer.{with_front}
use Rattle.dlc_answer.specs.declared.Answer.{Answer}
use Rattle.dlc_table.specs.Answers.{refuses}
use Rattle.dlc_table.specs.Model.{Model}
use Rattle.dlc_table.specs.Events.{Effect, made_of, start_of, timer_of, payload_of, arrival_of}
use Rattle.dlc_queue.specs.Queue.{slots}
use Rattle.dlc_send.specs.Send.{lengths_of}
use Rattle.dlc.specs.declared.Link.{Link}
use Rattle.dlc.specs.declared.Outcome.{Outcome}
use Rattle.dlc.specs.View.{view}

-- the answer that says an effect: with its packets' number and lengths
abbrev pub answer_of : Effect → Answer
answer_of d = record {
  code = d.code;
  upper_reset = d.upper_reset;
  delivered = d.delivered;
  sent = length d.packets;
  lengths = lengths_of d.packets;
}

-- a link given back with the answer of an effect
abbrev pub given : Link → Effect → Outcome
given l d = record { link = l; answer = answer_of d }

-- a link given back with one packet, which is all that was written
pub record OneSent (l : Link) (c : ℕ) (upper_reset delivered : Bool) (packet before later : List ℕ) (r : Outcome) : Type 0 where
  pub outcome : r ≡ given l (record { code = c; upper_reset = upper_reset; delivered = delivered; packets = packet ∷ []; after = view l })
  pub reply : later ≡ with_front packet before

-- ---- over a type of links L and its view v, which gives the model that the step table speaks of
-- what is given back where a link is made, with this number for its edition: the answer a, and the link r
pub record MakeCall {L : Type 0} (v : L → Model) (n : ℕ) (r : L) (a : Answer) : Type 0 where
  pub answer : a ≡ answer_of (made_of n)
  pub link : v r ≡ (made_of n).after

-- what is given back where the effect is d, for the link l: its answer a, the link r after it, and on a refusal the very link that came
pub record Returns {L : Type 0} (v : L → Model) (d : Effect) (l r : L) (a : Answer) : Type 0 where
  pub answer : a ≡ answer_of d
  pub link : v r ≡ d.after
  pub kept : refuses d.code ≡ true → r ≡ l

-- and the reply buffer: the packets one after another at its front, the rest as before
pub record Meets {L : Type 0} (v : L → Model) (d : Effect) (l : L) (before later : List ℕ) (r : L) (a : Answer) : Type 0 where
  pub returns : Returns v d l r a
  pub reply : later ≡ with_front (flatten d.packets) before

abbrev pub StartCall : {L : Type 0} → (L → Model) → L → List ℕ → List ℕ → L → Answer → Type 0
StartCall v l before later r a = Meets v (start_of slots (v l) (length before)) l before later r a

abbrev pub TimerCall : {L : Type 0} → (L → Model) → L → List ℕ → List ℕ → L → Answer → Type 0
TimerCall v l before later r a = Meets v (timer_of slots (v l) (length before)) l before later r a

abbrev pub PayloadCall : {L : Type 0} → (L → Model) → L → List ℕ → List ℕ → List ℕ → L → Answer → Type 0
PayloadCall v l p before later r a = Meets v (payload_of slots (v l) p (length before)) l before later r a

abbrev pub ArrivalCall : {L : Type 0} → (L → Model) → L → List ℕ → List ℕ → List ℕ → L → Answer → Type 0
ArrivalCall v l packet before later r a = Meets v (arrival_of slots (v l) packet (length before)) l before later r a
