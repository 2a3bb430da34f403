-- Packets of the sliding window as octets. Assumes nothing.
use Prim.Native.Nat.{ℕ, suc, ◌+◌, ◌/◌, ◌%◌, ◌≤◌, ◌<◌}
use native.Mathlib.Omega.{arith}
use mathlib.Core.Path.{◌≡◌, refl, ap, ◌∙◌}
use mathlib.Core.Bool.{Bool, true, false}
use mathlib.Core.List.{List, [], ◌∷◌, ◌++◌, map}
use lib.ListN.{length}
use lib.Dec.{ltb, eqb}
use borrow.Author.Tests.{le-ltb, eq-eqb, ne_eqb}
use Rattle.dlc_packet.specs.declared.Kind.TheVariants.{Data, Dack}
use Rattle.dlc_packet.specs.Packet.{reset_octet, reset_ack_octet, data_octet, dack_octet}
use Rattle.dlc_queue.proofs.Values.{Short}
use Rattle.dlc.specs.Limits.{modulus, max_payload, data_packet, dack_packet, data_packets, kind_of}
use Rattle.dlc_run.specs.Replies.{Octets, Packets, is_data, is_dack}
use Rattle.window.specs.Packets.{Packet, data_pdu, dack_pdu, count_data, count_dack, numbered}
use Rattle.window.proofs.InFlight.{All}
use Rattle.dlc_pair.specs.World.{one, count}

-- a packet's octets
abbrev pub encode : Packet → Octets
encode (data_pdu x p) = data_packet x p
encode (dack_pdu x) = dack_packet x

-- a packet that octets can say: its number is below the modulus, its payload not too long
abbrev pub Sound : Packet → Type 0
Sound (data_pdu x p) = (x < modulus) × (length p ≤ max_payload)
Sound (dack_pdu x) = x < modulus

-- ---- the kind of a packet, by its octets
data_is_data : (x : ℕ) → x < modulus → eqb ((data_octet + x) / modulus) (data_octet / modulus) ≡ true
data_is_data x h = eq-eqb ((data_octet + x) / modulus) (data_octet / modulus) (omega arith)

data_not_dack : (x : ℕ) → x < modulus → eqb ((data_octet + x) / modulus) (dack_octet / modulus) ≡ false
data_not_dack x h = ne_eqb ((data_octet + x) / modulus) (dack_octet / modulus) (λ e. omega (arith, e))

dack_is_dack : (x : ℕ) → x < modulus → eqb ((dack_octet + x) / modulus) (dack_octet / modulus) ≡ true
dack_is_dack x h = eq-eqb ((dack_octet + x) / modulus) (dack_octet / modulus) (omega arith)

dack_not_data : (x : ℕ) → x < modulus → eqb ((dack_octet + x) / modulus) (data_octet / modulus) ≡ false
dack_not_data x h = ne_eqb ((dack_octet + x) / modulus) (data_octet / modulus) (λ e. omega (arith, e))

abbrev pub data_bit : Packet → Bool
data_bit (data_pdu x p) = true
data_bit (dack_pdu x) = false

abbrev pub dack_bit : Packet → Bool
dack_bit (data_pdu x p) = false
dack_bit (dack_pdu x) = true

pub is_data-encode : (k : Packet) → Sound k → is_data (encode k) ≡ data_bit k
is_data-encode (data_pdu x p) h = data_is_data x h.0
is_data-encode (dack_pdu x) h = dack_not_data x h

pub is_dack-encode : (k : Packet) → Sound k → is_dack (encode k) ≡ dack_bit k
is_dack-encode (data_pdu x p) h = data_not_dack x h.0
is_dack-encode (dack_pdu x) h = dack_is_dack x h

pub kind_of_data : (x : ℕ) (p : Octets) → Sound (data_pdu x p) → kind_of (data_packet x p) ≡ Data x
kind_of_data x p h =
    let some : eqb (suc (length p)) 0 ≡ false = ne_eqb (suc (length p)) 0 (λ e. omega (arith, e)) in
    let short : ltb (max_payload + 1) (suc (length p)) ≡ false = le-ltb (max_payload + 1) (suc (length p)) (omega (arith, h.1)) in
    let low : (data_octet + x) % modulus ≡ x = omega (arith, h.0) in
    simp (some, short, data_is_data x h.0, low)

pub kind_of_dack : (x : ℕ) → x < modulus → kind_of (dack_packet x) ≡ Dack x
kind_of_dack x h =
    let a : eqb (dack_octet + x) reset_octet ≡ false = ne_eqb (dack_octet + x) reset_octet (λ e. omega (arith, e)) in
    let b : eqb (dack_octet + x) reset_ack_octet ≡ false = ne_eqb (dack_octet + x) reset_ack_octet (λ e. omega (arith, e)) in
    let low : (dack_octet + x) % modulus ≡ x = omega arith in
    simp (dack_not_data x h, a, b, dack_is_dack x h, low)

-- ---- counts
pub count-++ : (f : Octets → Bool) (ks ls : Packets) → count f (ks ++ ls) ≡ count f ks + count f ls
count-++ f [] ls = omega arith
count-++ f (k ∷ ks) ls = omega (arith, count-++ f ks ls)

pub count_data_lem : (ks : List Packet) → All Sound ks → count is_data (map encode ks) ≡ count_data ks
count_data_lem [] s = refl
count_data_lem (data_pdu x p ∷ ks) s = (λ i. one (data_is_data x s.0.0 i) + count_data_lem ks s.1 i) ∙ omega arith
count_data_lem (dack_pdu x ∷ ks) s = (λ i. one (dack_not_data x s.0 i) + count_data_lem ks s.1 i) ∙ omega arith

pub count_dack_lem : (ks : List Packet) → All Sound ks → count is_dack (map encode ks) ≡ count_dack ks
count_dack_lem [] s = refl
count_dack_lem (data_pdu x p ∷ ks) s = (λ i. one (data_not_dack x s.0.0 i) + count_dack_lem ks s.1 i) ∙ omega arith
count_dack_lem (dack_pdu x ∷ ks) s = (λ i. one (dack_is_dack x s.0 i) + count_dack_lem ks s.1 i) ∙ omega arith

-- ---- "send all"
pub data_packets-numbered : (x : ℕ) (q : Packets) → data_packets x q ≡ map encode (numbered x q)
data_packets-numbered x [] = refl
data_packets-numbered x (p ∷ q) = ap (λ (t : Packets). data_packet x p ∷ t) (data_packets-numbered ((x + 1) % modulus) q)

pub sound_numbered : (x : ℕ) (q : Packets) → x < modulus → Short q → All Sound (numbered x q)
sound_numbered x [] h s = tt
sound_numbered x (p ∷ q) h s = ((h, s.0), sound_numbered ((x + 1) % modulus) q (omega arith) s.1)
