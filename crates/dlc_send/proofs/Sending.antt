-- Laws of sending the queue: one turn writes one packet, and what is left, written behind it, gives the whole. Assumes nothing.
use Prim.Native.Nat.{ℕ, suc, ◌+◌, ◌*◌, ◌<◌, ◌≤◌}
use native.Mathlib.Omega.{arith}
use native.Mathlib.Numerals.{add-one}
use mathlib.Core.Path.{◌≡◌, refl, sym, ap, ◌∙◌}
use mathlib.Core.Bool.{Bool, true, false, ◌&&◌}
use mathlib.Core.List.{List, [], ◌∷◌, map, flatten}
use lib.ListN.{length, take, drop, get_or, set, replicate, length-append, length-map}
use lib.Seq.{sets}
use Rattle.std.proofs.lemmas.List.{length-take, drop-map}
use lib.Dec.{leb, ltb}
use borrow.Author.Tests.{leb-true, ltb-true, le-leb, lt-ltb}
use Rattle.common.proofs.Buffer.{sets-++, sets-front}
use Rattle.dlc_packet.specs.Numbers.{modulus, advance}
use Rattle.dlc_packet.specs.Packet.{max_payload, data_packet, data_packets}
use Rattle.dlc_queue.specs.declared.Payload.{Payload}
use Rattle.dlc_queue.specs.declared.Queue.{Queue}
use Rattle.dlc_queue.specs.Queue.{slots, reply_size, octets_of, all_short, payloads, formed}
use Rattle.dlc_send.specs.Send.{sending, Written, Sent}
use lib.Seq.{drop-cons}
use Rattle.dlc_queue.proofs.Slots.{formed_count, formed_short}
use Rattle.common.proofs.Bools.{and_both}
use Rattle.dlc_queue.proofs.Short.{none}

-- the loop's invariant: x is the number of slot i, at the index of its packet, and what is left gives the whole
pub record Sending (ps : List (List ℕ)) (base : ℕ) (out₀ out lengths : List ℕ) (x at i : ℕ) : Type 0 where
  pub within : i ≤ length ps
  pub number : x < modulus
  pub place : at ≤ (max_payload + 1) * i
  pub long : length out ≡ length out₀
  pub table : length lengths ≡ slots
  pub reply : sets out at (flatten (data_packets x (drop i ps))) ≡ sets out₀ 0 (flatten (data_packets base ps))
  pub counts : sets lengths i (map length (data_packets x (drop i ps))) ≡ sets (replicate slots 0) 0 (map length (data_packets base ps))

pub length-data_packets : (x : ℕ) (ps : List (List ℕ)) → length (data_packets x ps) ≡ length ps
length-data_packets x [] = refl
length-data_packets x (p ∷ ps) = ap suc (length-data_packets (advance x 1) ps)

-- payload i is the next to be sent
pub next : (q : List Payload) (i : ℕ) → i < length q
    → drop i (map octets_of q) ≡ octets_of (get_or q i none) ∷ drop (i + 1) (map octets_of q)
next q i h =
    drop-map octets_of i q
    ∙ ap (map octets_of) (drop-cons q i none h ∙ ap (λ (m : ℕ). get_or q i none ∷ drop m q) (sym (add-one i)))
    ∙ ap (λ (t : List (List ℕ)). octets_of (get_or q i none) ∷ t) (sym (drop-map octets_of (i + 1) q))

-- one packet, and then the others
module _ (ps rest : List (List ℕ)) (p : List ℕ) (x : ℕ) (e : ps ≡ p ∷ rest) where
  pub reply_next : (m : List ℕ) (at : ℕ)
      → sets (sets m at (data_packet x p)) (at + suc (length p)) (flatten (data_packets (advance x 1) rest)) ≡ sets m at (flatten (data_packets x ps))
  unfolding flatten
  reply_next m at = rw e (sym (sets-++ (data_packet x p) (flatten (data_packets (advance x 1) rest)) m at))

  pub counts_next : (m : List ℕ) (i : ℕ)
      → sets (set m i (suc (length p))) (i + 1) (map length (data_packets (advance x 1) rest)) ≡ sets m i (map length (data_packets x ps))
  counts_next m i = rw (e, add-one i)

-- payloads of at most 256 octets
abbrev pub Short : List (List ℕ) → Type 0
Short [] = Unit {0}
Short (p ∷ ps) = (length p ≤ max_payload) × Short ps

pub length-sent : (x : ℕ) (ps : List (List ℕ)) → Short ps → length (flatten (data_packets x ps)) ≤ (max_payload + 1) * length ps
unfolding flatten
length-sent x [] s = omega arith
length-sent x (p ∷ ps) s =
    let h = length-sent (advance x 1) ps s.1 in
    rw (length-append (data_packet x p) (flatten (data_packets (advance x 1) ps))) (omega (arith, h, s.0))

-- the end of the loop
pub sent : (ps : List (List ℕ)) (base : ℕ) (out₀ out lengths : List ℕ) → Short ps → length ps ≤ slots → (max_payload + 1) * slots ≤ length out₀
    → out ≡ sets out₀ 0 (flatten (data_packets base ps))
    → lengths ≡ sets (replicate slots 0) 0 (map length (data_packets base ps))
    → Written (data_packets base ps) out₀ out lengths
sent ps base out₀ out lengths s few room e f =
    let h : length (flatten (data_packets base ps)) ≤ length out₀ = omega (arith, length-sent base ps s) in
    let k : length (map length (data_packets base ps)) ≤ slots = rw (length-map (data_packets base ps) length, length-data_packets base ps) few in
    record { lengths = f ∙ sets-front (map length (data_packets base ps)) (replicate slots 0) k; reply = e ∙ sets-front (flatten (data_packets base ps)) out₀ h }

-- a queue that holds no payload that is too long sends none
pub short_payloads : (ps : List Payload) → all_short ps ≡ true → Short (map octets_of ps)
short_payloads [] e = tt
short_payloads (p ∷ ps) e =
    let b = and_both (leb p.len max_payload) (all_short ps) e in
    (omega (arith, length-take p.len p.octets, leb-true p.len max_payload b.0), short_payloads ps b.1)

-- send: nothing is written where the queue or the number is none, or the buffer too short
module _ (q : Queue) (x : ℕ) (m : List ℕ) where
  -- the test of `send`
  abbrev sendable : Bool
  sendable = formed q && (ltb x modulus && leb reply_size (length m))

  pub unsent : sendable ≡ false → Sent q x m m (replicate slots 0)
  unfolding flatten
  unsent e = rw e (record { lengths = refl; reply = refl })

  pub sent_written : sendable ≡ true → (later counts : List ℕ) → Written (data_packets x (payloads q)) m later counts → Sent q x m later counts
  sent_written e later counts w = rw e w

  pub sendable_parts : sendable ≡ true → (q.count ≤ slots) × ((all_short (take q.count q.slots) ≡ true) × ((x < modulus) × (reply_size ≤ length m)))
  sendable_parts e =
      let b = and_both (formed q) (ltb x modulus && leb reply_size (length m)) e in
      let n = and_both (ltb x modulus) (leb reply_size (length m)) b.1 in
      (formed_count q b.0, (formed_short q b.0, (ltb-true _ _ n.0, leb-true _ _ n.1)))

  pub sent_all : formed q ≡ true → x < modulus → reply_size ≤ length m → sending q x (length m) ≡ data_packets x (payloads q)
  sent_all e h k = simp (e, lt-ltb _ _ h, le-leb _ _ k)
