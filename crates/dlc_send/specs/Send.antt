-- Sending the queue: "every queued payload as DATA, oldest first, none removed"; "places count up from the oldest number, and DATA carries its place's number".
-- Cited by dlc_send's functions and by the specs of the link. Assumes nothing.
use Rattle.std.specs.Prelude.{ℕ, ◌≡◌, cond, ◌&&◌, length, replicate, leb, ltb}
use mathlib.Core.List.{List, [], map, flatten}
use Rattle.common.specs.Buffer.{with_front}
use Rattle.dlc_packet.specs.Numbers.{modulus}
use Rattle.dlc_packet.specs.Packet.{data_packets}
use Rattle.dlc_queue.specs.declared.Queue.{Queue}
use Rattle.dlc_queue.specs.Queue.{slots, reply_size, payloads, formed}

-- an answer's lengths: one for each packet sent, then 0 up to the number of slots
abbrev pub lengths_of : List (List ℕ) → List ℕ
lengths_of packets = with_front (map length packets) (replicate slots 0)

-- what send writes where the oldest payload has the number x and the buffer has room octets: nothing where the queue or the number is none,
-- or the buffer too short
abbrev pub sending : Queue → ℕ → ℕ → List (List ℕ)
sending q x room = cond (formed q && (ltb x modulus && leb reply_size room)) (data_packets x (payloads q)) []

-- packets that stand one after another at the front of a buffer, and their lengths
pub record Written (packets : List (List ℕ)) (before later counts : List ℕ) : Type 0 where
  pub lengths : counts ≡ lengths_of packets
  pub reply : later ≡ with_front (flatten packets) before

-- what send does: the buffer before and after, and the lengths that it returns
abbrev pub Sent : Queue → ℕ → List ℕ → List ℕ → List ℕ → Type 0
Sent q x before later lengths = Written (sending q x (length before)) before later lengths
