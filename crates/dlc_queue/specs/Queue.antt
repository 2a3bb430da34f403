-- The queue: it "holds at most 7 payloads, oldest first, and freed places are used again"; in place of the 7 "the queue takes 15" (2026-06). A place is
-- a slot here.
-- Cited by dlc_queue's and dlc_send's functions and by the specs of the link. Assumes nothing.
--
--   payloads q     the payloads that a queue holds; octets past a payload's length and slots past the count are free, and no part of it
--   held q         how many they are
--   formed q       whether a queue value is one: as many payloads as there are slots at most, none over 256 octets
--   at_rest q       whether it is such as a link has that was not opened yet
--   fresh, emptied q            an empty queue, and one that holds nothing any more
--   Pushed q p, Removed q n     what push and remove make of it
--
-- The link speaks of a queue by these names, and of no field of it.
use Rattle.std.specs.Prelude.{ℕ, ◌+◌, ◌-◌, ◌*◌, ◌≡◌, Bool, true, false, ◌&&◌, List, [], ◌∷◌, ◌++◌, map, length, take, drop, replicate, leb, ltb, eqb}
use Rattle.dlc_packet.specs.Packet.{max_payload, max_packet}
use Rattle.dlc_queue.specs.declared.Payload.{Payload}
use Rattle.dlc_queue.specs.declared.Queue.{Queue}

-- payloads that a queue can hold: fewer than there are numbers, or a repeat could be taken for new DATA (docs/SIXTEEN.md)
abbrev pub slots : ℕ
slots = 15

-- octets of a reply buffer, 3,855: room for a full queue of the longest payloads, each with its control octet
abbrev pub reply_size : ℕ
reply_size = slots * max_packet

-- the octets of one slot
abbrev pub octets_of : Payload → List ℕ
octets_of p = take p.len p.octets

-- the slots in use, oldest first
abbrev pub used : Queue → List Payload
used q = take q.count q.slots

-- the payloads queued, oldest first
abbrev pub payloads : Queue → List (List ℕ)
payloads q = map octets_of (used q)

-- how many payloads are queued
abbrev pub held : Queue → ℕ
held q = q.count

-- no payload is over 256 octets
abbrev pub all_short : List Payload → Bool
all_short [] = true
all_short (p ∷ ps) = leb p.len max_payload && all_short ps

-- a queue value that can be: count and lengths within their limits; the length of a free slot may be anything
unfoldable pub formed : Queue → Bool
formed q = leb q.count slots && all_short (used q)

-- the queue of a link in DLIDLE or DLRESET: nothing is queued
abbrev pub at_rest : Queue → Bool
at_rest q = eqb (held q) 0

-- an empty queue, its slots all 0
abbrev pub free : Payload
free = record { len = 0; octets = replicate max_payload 0 }

abbrev pub fresh : Queue
fresh = record { count = 0; slots = replicate slots free }

-- "queue emptied": every slot is free
abbrev pub emptied : Queue → Queue
emptied q = record { count = 0; slots = q.slots }

-- whether one payload more can be queued
abbrev pub has_room : Queue → List ℕ → Bool
has_room q p = ltb q.count slots && leb (length p) max_payload

-- the queue after push: the payload behind the others; without room for it, or where it is too long, the very queue that came
pub record Pushed (q : Queue) (p : List ℕ) (r : Queue) : Type 0 where
  pub count : has_room q p ≡ true → r.count ≡ q.count + 1
  pub queue : has_room q p ≡ true → payloads r ≡ payloads q ++ (p ∷ [])
  pub formed : has_room q p ≡ true → formed r ≡ formed q
  pub kept : has_room q p ≡ false → r ≡ q

-- whether that many payloads are there to be removed
abbrev pub has_oldest : Queue → ℕ → Bool
has_oldest q n = leb q.count slots && leb n q.count

-- the queue after remove: without its n oldest payloads; where it holds fewer, or is none, the very queue that came
pub record Removed (q : Queue) (n : ℕ) (r : Queue) : Type 0 where
  pub count : has_oldest q n ≡ true → r.count ≡ q.count - n
  pub used : has_oldest q n ≡ true → used r ≡ drop n (used q)
  pub kept : has_oldest q n ≡ false → r ≡ q
