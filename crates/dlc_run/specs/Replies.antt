-- What a call on a link gave back, and what its caller makes of it. Cited by lists of events at one end (Runs) and at two ends (dlc_pair). Assumes nothing.
use Rattle.std.specs.Prelude.{ℕ, zero, suc, ◌/◌, ◌≢◌, Bool, false, cond, ◌&&◌, List, [], ◌∷◌, take, drop, eqb}
use Rattle.dlc_packet.specs.Numbers.{modulus}
use Rattle.dlc_packet.specs.Packet.{data_octet, dack_octet}
use Rattle.dlc_table.specs.Answers.{done}
use Rattle.dlc_answer.specs.declared.Answer.{Answer}
use Rattle.dlc_answer.specs.Delivered.{delivered_part}

-- octets of a packet, of a payload or of a buffer; and lists of packets or of payloads
abbrev pub Octets : Type 0
Octets = List ℕ

abbrev pub Packets : Type 0
Packets = List (List ℕ)

-- "4x DATA"
abbrev pub is_data : Octets → Bool
is_data [] = false
is_data (c ∷ p) = eqb (c / modulus) (data_octet / modulus)

-- "5x DACK"
abbrev pub is_dack : Octets → Bool
is_dack [] = false
is_dack (c ∷ p) = eqb (c / modulus) (dack_octet / modulus)

-- the first n packets of a buffer, which stand one after another, by their lengths
abbrev pub packets_in : ℕ → List ℕ → Octets → Packets
packets_in zero lengths m = []
packets_in (suc n) [] m = []
packets_in (suc n) (k ∷ lengths) m = take k m ∷ packets_in n lengths (drop k m)

-- ---- what a call gave back
-- the reply buffer after it, a link and an answer, under the contract that the link's function ensures
pub record Reply {L : Type 0} (Contract : Octets → L → Answer → Type 0) : Type 0 where
  pub later : Octets
  pub link : L
  pub answer : Answer
  pub meets : Contract later link answer

-- "packets sent are copied from the store, in order": by the answer's number and lengths, out of the buffer after the call
abbrev pub copied_by : Answer → Octets → Packets
copied_by a later = packets_in a.sent a.lengths later

-- "accepted are payloads whose call answered 0"
abbrev pub accepted_by : Octets → Answer → Packets
accepted_by p a = cond (eqb a.code done) (p ∷ []) []

-- "handed up, those shown where arriving DATA was answered 0"
abbrev pub delivered_by : Octets → Answer → Packets
delivered_by q a = cond (is_data q && eqb a.code done) (delivered_part a.delivered q ∷ []) []

-- ---- the numbers that calls answered
-- no number of the list is this one
abbrev pub Never : ℕ → List ℕ → Type 0
Never c [] = Unit {0}
Never c (x ∷ xs) = (x ≢ c) × Never c xs
