-- Laws of `all_short`: no payload is too long. Assumes nothing.
use Prim.Native.Nat.{ℕ, zero, suc, ◌≤◌}
use mathlib.Core.Path.{◌≡◌, refl, ap}
use Rattle.std.specs.List.{list_all}
use mathlib.Core.Bool.{Bool, true, ◌&&◌}
use mathlib.Core.List.{List, [], ◌∷◌, ◌++◌}
use lib.Dec.{leb, lit≤}
use lib.ListN.{get_or, drop}
use borrow.Author.Tests.{le-leb, leb-true}
use Rattle.common.proofs.Bools.{and_both}
use Rattle.dlc_packet.specs.Packet.{max_payload}
use Rattle.dlc_queue.specs.declared.Payload.{Payload}
use Rattle.dlc_queue.specs.Queue.{all_short}

-- what an array gives past its end
abbrev pub none : Payload
none = record { len = 0; octets = [] }

pub short_at_lem : (l : List Payload) (i : ℕ) → all_short l ≡ true → (get_or l i none).len ≤ max_payload
short_at_lem [] i e = lit≤ tt
short_at_lem (p ∷ ps) zero e = leb-true p.len max_payload (and_both (leb p.len max_payload) (all_short ps) e).0
short_at_lem (p ∷ ps) (suc i) e = short_at_lem ps i (and_both (leb p.len max_payload) (all_short ps) e).1

-- the same as std's word for it
pub short_all : (ps : List Payload) → list_all (λ p. leb p.len max_payload) ps ≡ all_short ps
short_all [] = refl
short_all (p ∷ ps) = ap (λ (b : Bool). leb p.len max_payload && b) (short_all ps)

-- a short payload more
pub short_snoc : (ps : List Payload) (x : Payload) → x.len ≤ max_payload → all_short (ps ++ (x ∷ [])) ≡ all_short ps
short_snoc [] x h = simp (le-leb _ _ h)
short_snoc (p ∷ ps) x h = ap (λ (b : Bool). leb p.len max_payload && b) (short_snoc ps x h)

pub short-drop : (k : ℕ) (ps : List Payload) → all_short ps ≡ true → all_short (drop k ps) ≡ true
short-drop zero ps e = e
short-drop (suc k) [] e = e
short-drop (suc k) (p ∷ ps) e = short-drop k ps (and_both (leb p.len max_payload) (all_short ps) e).1
