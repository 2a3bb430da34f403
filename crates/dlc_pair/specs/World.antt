-- Two ends of a link and the two lines between them: what there is. Cited by History and Demand3. Assumes nothing.
use Rattle.std.specs.Prelude.{ℕ, ◌+◌, Bool, true, false, List, [], ◌∷◌}
use Rattle.dlc_run.specs.Replies.{Octets, Packets, is_data}
use Rattle.window.specs.Sides.{Both}

abbrev pub one : Bool → ℕ
one true = 1
one false = 0

-- how many packets of a list are of this kind
abbrev pub count : (Octets → Bool) → Packets → ℕ
count f [] = 0
count f (q ∷ qs) = one (f q) + count f qs

-- ---- the world
-- L is a type of links: a claim here is about whatever calls give back under the contracts of its view (dlc/specs/Calls)
pub record End (L : Type 0) : Type 0 where
  -- the value that this end's last call gave back
  pub link : L
  -- its outgoing line, front first
  pub line : Packets
  -- every packet that was copied out of its reply buffers
  pub copied : Packets
  -- payloads whose call answered 0
  pub accepted : Packets
  -- payloads delivered here ("handed up")
  pub delivered : Packets
  -- lost packets that are its DATA, or DACKs sent to it
  pub lost : ℕ
  -- what its calls answered
  pub answers : List ℕ

abbrev pub World : Type 0 → Type 0
World L = Both (End L)

-- an end at the start: no packet sent, no payload accepted or delivered
abbrev pub fresh_end : {L : Type 0} → L → End L
fresh_end l = record { link = l; line = []; copied = []; accepted = []; delivered = []; lost = 0; answers = [] }

abbrev pub initial : {L : Type 0} → L → L → World L
initial l l' = record { left = fresh_end l; right = fresh_end l' }

-- DATA sent: "all 4x packets copied out, repeats too"
abbrev pub data_sent : {L : Type 0} → End L → ℕ
data_sent e = count is_data e.copied
