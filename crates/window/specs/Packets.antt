-- Packets as they matter to the window: a number that counts modulo 16, and the payload of DATA. Cited by Ends and Events. Assumes nothing.
use Rattle.std.specs.Prelude.{ℕ, suc, List, [], ◌∷◌}
pub use Rattle.dlc_packet.specs.Numbers.{modulus, advance}

abbrev pub Payload : Type 0
Payload = List ℕ

abbrev pub Payloads : Type 0
Payloads = List (List ℕ)

-- DATA with its number and payload; DACK with its number
pub data Packet : Type 0 where
  data_pdu : ℕ → Payload → Packet
  dack_pdu : ℕ → Packet

-- how many packets of a list are DATA
abbrev pub count_data : List Packet → ℕ
count_data [] = 0
count_data (data_pdu x p ∷ ks) = suc (count_data ks)
count_data (dack_pdu x ∷ ks) = count_data ks

-- how many are DACKs
abbrev pub count_dack : List Packet → ℕ
count_dack [] = 0
count_dack (data_pdu x p ∷ ks) = count_dack ks
count_dack (dack_pdu x ∷ ks) = suc (count_dack ks)

-- payloads as DATA packets, oldest first, numbered from x on
abbrev pub numbered : ℕ → Payloads → List Packet
numbered x [] = []
numbered x (p ∷ ps) = data_pdu x p ∷ numbered (advance x 1) ps
