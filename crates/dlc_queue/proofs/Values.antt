-- A queue for every list of payloads that one can hold, its free slots all 0: for whoever has to show that there are links. Assumes nothing.
use Prim.Native.Nat.{ℕ, zero, suc, ◌-◌, ◌≤◌}
use native.Mathlib.Omega.{arith}
use mathlib.Core.Path.{◌≡◌, refl, ap, ◌∙◌}
use mathlib.Core.Bool.{true, ◌&&◌}
use mathlib.Core.List.{List, [], ◌∷◌, ◌++◌, map}
use lib.ListN.{length, drop, replicate, length-map, length-append, length-replicate}
use lib.Seq.{take-append_seam, take_at}
use lib.Dec.{eqb}
use borrow.Author.Tests.{le-leb}
use Rattle.dlc_packet.specs.Packet.{max_payload}
use Rattle.dlc_queue.specs.declared.Payload.{Payload}
use Rattle.dlc_queue.specs.declared.Queue.{Queue}
use Rattle.dlc_queue.specs.Queue.{slots, octets_of, used, payloads, held, all_short, formed, at_rest}
use Rattle.dlc_queue.proofs.Shape.{Long}
use Rattle.dlc_queue.proofs.Slots.{is_formed}

abbrev pub slot_of : List ℕ → Payload
slot_of p = record { len = length p; octets = p ++ replicate (max_payload - length p) 0 }

abbrev pub queue_of : List (List ℕ) → Queue
queue_of ps = record { count = length ps; slots = map slot_of ps ++ replicate (slots - length ps) (slot_of []) }

-- no payload is too long
abbrev pub Short : List (List ℕ) → Type 0
Short [] = Unit {0}
Short (p ∷ ps) = (length p ≤ max_payload) × Short ps

-- one more, and some fewer
pub short_queued : (ps : List (List ℕ)) (p : List ℕ) → Short ps → length p ≤ max_payload → Short (ps ++ (p ∷ []))
short_queued [] p s h = (h, tt)
short_queued (x ∷ ps) p s h = (s.0, short_queued ps p s.1 h)

pub short_dropped : (n : ℕ) (ps : List (List ℕ)) → Short ps → Short (drop n ps)
short_dropped zero ps s = s
short_dropped (suc n) [] s = s
short_dropped (suc n) (p ∷ ps) s = short_dropped n ps s.1

used-queue_of : (ps : List (List ℕ)) → used (queue_of ps) ≡ map slot_of ps
used-queue_of ps = take_at (map slot_of ps) (replicate (slots - length ps) (slot_of [])) (length ps) (length-map ps slot_of)

octets_slots : (ps : List (List ℕ)) → map octets_of (map slot_of ps) ≡ ps
octets_slots [] = refl
octets_slots (p ∷ ps) = λ i. take-append_seam p (replicate (max_payload - length p) 0) i ∷ octets_slots ps i

slots_short : (ps : List (List ℕ)) → Short ps → all_short (map slot_of ps) ≡ true
slots_short [] s = refl
slots_short (p ∷ ps) s = λ i. le-leb (length p) max_payload s.0 i && slots_short ps s.1 i

-- it holds them, as far as there are slots, and is at rest where there are none
module _ (ps : List (List ℕ)) where
  pub held-queue_of : held (queue_of ps) ≡ length ps
  held-queue_of = refl

  pub rest-queue_of : at_rest (queue_of ps) ≡ eqb (length ps) 0
  rest-queue_of = refl

  pub payloads-queue_of : length ps ≤ slots → payloads (queue_of ps) ≡ ps
  payloads-queue_of h = ap (map octets_of) (used-queue_of ps) ∙ octets_slots ps

module _ (ps : List (List ℕ)) (s : Short ps) (h : length ps ≤ slots) where
  pub formed-queue_of : formed (queue_of ps) ≡ true
  formed-queue_of = is_formed (queue_of ps) h (ap all_short (used-queue_of ps) ∙ slots_short ps s)

  -- the arrays have the lengths that the code's types give them
  pub slots-queue_of : length (queue_of ps).slots ≡ slots
  slots-queue_of = omega (
    arith,
    length-append (map slot_of ps) (replicate (slots - length ps) (slot_of [])),
    length-map ps slot_of,
    length-replicate (slots - length ps) (slot_of []),
  )

slot-length : (p : List ℕ) → length p ≤ max_payload → length (slot_of p).octets ≡ max_payload
slot-length p h = omega (arith, length-append p (replicate (max_payload - length p) 0), length-replicate {A = ℕ} (max_payload - length p) 0)

long-++ : (xs ys : List Payload) → Long xs → Long ys → Long (xs ++ ys)
long-++ [] ys g k = k
long-++ (x ∷ xs) ys g k = (g.0, long-++ xs ys g.1 k)

long_slots : (ps : List (List ℕ)) → Short ps → Long (map slot_of ps)
long_slots [] s = tt
long_slots (p ∷ ps) s = (slot-length p s.0, long_slots ps s.1)

long_free : (n : ℕ) → Long (replicate n (slot_of []))
long_free zero = tt
long_free (suc n) = (slot-length [] (omega arith), long_free n)

pub octets-queue_of : (ps : List (List ℕ)) → Short ps → Long (queue_of ps).slots
octets-queue_of ps s = long-++ (map slot_of ps) (replicate (slots - length ps) (slot_of [])) (long_slots ps s) (long_free (slots - length ps))
