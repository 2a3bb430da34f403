-- An end of a link, and what each event makes of it. Cited by Events. Assumes nothing.
--
-- What may differ from link to link is in `Rules`; what the theorem needs of it is in `Lawful`.
use Rattle.std.specs.Prelude.{ℕ, suc, ◌+◌, ◌-◌, ◌%◌, ◌≤◌, ◌<◌, ◌≡◌, Bool, true, false, cond, ◌&&◌, List, [], ◌∷◌, ◌++◌, length, drop, leb}
use Rattle.window.specs.Packets.{modulus, advance, Payload, Payloads, Packet, data_pdu, dack_pdu, count_data, numbered}

pub record Rules : Type 0 where
  -- payloads that a queue holds
  pub window : ℕ
  -- whether an accepted payload is sent at once, besides being queued
  pub at_once : Bool
  -- the number that a DACK carries where this one is expected
  pub dack_number : ℕ → ℕ
  -- how many of the payloads from the base (first) on a DACK with the second number acknowledges
  pub distance : ℕ → ℕ → ℕ

-- the window is below the modulus, and a DACK's distance is how many payloads it acknowledges: of the whole numbers b (acknowledged before)
-- and k (acknowledged now) the ends know only the residues, and less than the modulus lies between them
pub record Lawful (r : Rules) : Type 0 where
  pub below : r.window < modulus
  pub distance : (b k : ℕ) → b ≤ k → k < b + modulus → r.distance (b % modulus) (r.dack_number (k % modulus)) ≡ k - b

-- the sending half of an end
pub record Sender : Type 0 where
  -- payloads accepted and not yet acknowledged, oldest first
  pub queue : Payloads
  -- the oldest slot's number; the next to be given where the queue is empty
  pub base : ℕ
  -- every payload accepted
  pub accepted : Payloads
  -- DATA packets sent, repeats too
  pub sent : ℕ
  -- lost packets that are its DATA, or DACKs sent to it
  pub lost : ℕ

-- the receiving half
pub record Receiver : Type 0 where
  -- the number of the DATA that is to be delivered next (the paper's "awaited number")
  pub expected : ℕ
  -- every payload delivered ("handed up")
  pub delivered : Payloads

pub record End : Type 0 where
  pub sender : Sender
  pub receiver : Receiver
  -- its outgoing line, front first
  pub line : List Packet

-- ---- the sending half
abbrev pub queued : Payload → ℕ → Sender → Sender
queued p n x = record { queue = x.queue ++ (p ∷ []); base = x.base; accepted = x.accepted ++ (p ∷ []); sent = x.sent + n; lost = x.lost }

abbrev pub counted : ℕ → Sender → Sender
counted n x = record { queue = x.queue; base = x.base; accepted = x.accepted; sent = x.sent + n; lost = x.lost }

abbrev pub lost_one : Sender → Sender
lost_one x = record { queue = x.queue; base = x.base; accepted = x.accepted; sent = x.sent; lost = suc x.lost }

-- without the n oldest payloads of the queue
abbrev pub freed : ℕ → Sender → Sender
freed n x = record { queue = drop n x.queue; base = advance x.base n; accepted = x.accepted; sent = x.sent; lost = x.lost }

-- whether a DACK of this distance acknowledges some of the queue
abbrev pub acknowledges : ℕ → Payloads → Bool
acknowledges d q = leb 1 d && leb d (length q)

-- "distance 1 up to the queue's length removes that many oldest"; another distance none
abbrev pub apply_dack : ℕ → Sender → Sender
apply_dack d x = cond (acknowledges d x.queue) (freed d x) x

-- ---- the receiving half
-- the expected payload is delivered, and the number counts on
abbrev pub delivering : Payload → Receiver → Receiver
delivering p y = record { expected = advance y.expected 1; delivered = y.delivered ++ (p ∷ []) }

-- "judge": where the number is the expected one (the Bool), the payload is delivered; else nothing is
abbrev pub judged : Bool → Payload → Receiver → Receiver
judged hit p y = cond hit (delivering p y) y

-- ---- an end
abbrev pub with_line : List Packet → End → End
with_line ks e = record { sender = e.sender; receiver = e.receiver; line = ks }

abbrev pub with_sender : Sender → End → End
with_sender x e = record { sender = x; receiver = e.receiver; line = e.line }

-- packets join the back of the line; DATA among them are counted as sent
abbrev pub sending : List Packet → End → End
sending ks e = record { sender = counted (count_data ks) e.sender; receiver = e.receiver; line = e.line ++ ks }

-- the packets that an accepted payload puts on the line: none, or itself with its slot's number
abbrev pub first_sent : Bool → ℕ → Payload → List Packet
first_sent true x p = data_pdu x p ∷ []
first_sent false x p = []

abbrev pub accept_with : List Packet → Payload → End → End
accept_with ks p e = record { sender = queued p (count_data ks) e.sender; receiver = e.receiver; line = e.line ++ ks }

module _ (r : Rules) where
  -- "queue"
  abbrev pub accept : Payload → End → End
  accept p e = accept_with (first_sent r.at_once (advance e.sender.base (length e.sender.queue)) p) p e

  -- "send all: every queued payload as DATA, oldest first, none removed"
  abbrev pub send_all : End → End
  send_all e = sending (numbered e.sender.base e.sender.queue) e

  -- "either way send DACK with the number now awaited"
  abbrev pub answering : Receiver → End → End
  answering y e = record { sender = e.sender; receiver = y; line = e.line ++ (dack_pdu (r.dack_number y.expected) ∷ []) }

  -- DATA arrives; the Bool says whether it has the expected number
  abbrev pub take_data : Bool → Payload → End → End
  take_data hit p e = answering (judged hit p e.receiver) e
