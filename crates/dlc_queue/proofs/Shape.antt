-- What owning a queue or a payload tells of its arrays: how many elements they have. Assumes nothing.
use Prim.Native.Nat.{ℕ, zero, suc, ◌<◌}
use native.Mathlib.Nat.{not-suc-le-zero, le_of_suc-le-suc}
use mathlib.Core.Path.{◌≡◌}
use mathlib.Core.List.{List, [], ◌∷◌}
use lib.ListN.{length, get_or}
use mir.Val.{Val}
use denote.Laws.{Is}
use denote.Array.{Array, each}
use denote.Shadow.{shadow}
use Rattle.dlc_packet.specs.Packet.{max_payload}
use Rattle.dlc_queue.specs.declared.Payload.{Payload}
use Rattle.dlc_queue.specs.declared.Queue.{Queue}
use Rattle.dlc_queue.specs.Queue.{slots}
use Rattle.dlc_queue.specs.contracts.Payload as P
use Rattle.dlc_queue.specs.contracts.Queue as Q
use Rattle.dlc_queue.proofs.Short.{none}

pub octets_long : (p : Payload) (vs : List Val) → Is P.the_row p vs → length p.octets ≡ max_payload
octets_long p vs g = g.1.1.1.0.1.0.1

pub slots_long : (q : Queue) (vs : List Val) → Is Q.the_row q vs → length q.slots ≡ slots
slots_long q vs g = g.1.1.1.0.1.0.1

-- every payload of a list has a whole array
abbrev pub Long : List Payload → Type 0
Long [] = Unit {0}
Long (p ∷ ps) = (length p.octets ≡ max_payload) × Long ps

pub long_at_lem : (ps : List Payload) (i : ℕ) → i < length ps → Long ps → length (get_or ps i none).octets ≡ max_payload
long_at_lem [] i h g = absurd (not-suc-le-zero h)
long_at_lem (p ∷ ps) zero h g = g.0
long_at_lem (p ∷ ps) (suc i) h g = long_at_lem ps i (le_of_suc-le-suc h) g.1

each_long : (ps : List Payload) (us : List Val) → shadow (each Payload (P.the_row).own_val ps us) → Long ps
each_long [] us g = tt
each_long (p ∷ ps) [] g = absurd g
each_long (p ∷ ps) (u ∷ us) g = (octets_long p (u ∷ []) g.0, each_long ps us g.1)

pub array_long : (n : ℕ) (ps : List Payload) (vs : List Val) → Is (Array P.the_row n) ps vs → (length ps ≡ n) × Long ps
array_long n ps vs g = (g.1.0.1, each_long ps g.0 g.1.1)
