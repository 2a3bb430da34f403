-- Octets where many are escaped, as the shared loop takes them. Cited by the contracts of the functions that take them. Assumes nothing.
--
--   Ahead r s xs m n t m'   the call on xs from the state s with the buffer m is, n octets on, the call on the rest from t with m'
--   Goes r s y              the octet y joins the segment and is stored
--   escape_first r xs        an escape stands at the front of xs
--   waiting s w             the state s, with an escape behind it or none
use Rattle.std.specs.Prelude.{ℕ, ◌<◌, Bool, true, false, not, ◌&&◌, List, [], ◌∷◌, ◌≡◌, eqb, drop}
use Rattle.deframer.specs.Rule.{is_skipped, rules_of}
use Rattle.deframer.specs.Scan.{view}
use Rattle.deframer.specs.declared.Rule.{Rule}
use Rattle.deframer.specs.declared.State.{State}
use Rattle.framing.specs.Step.{step}
use Rattle.line.specs.Scan.{after, scan}

abbrev pub Ahead : Rule → State → (xs m : List ℕ) (n : ℕ) → State → (m' : List ℕ) → Type 0
Ahead r s xs m n t m' = scan (step (rules_of r)) (view s) xs m ≡ after n (scan (step (rules_of r)) (view t) (drop n xs) m')

abbrev pub Goes : Rule → State → (y : ℕ) → Type 0
Goes r s y =
    (eqb y r.escapes.flag ≡ false)
    × (is_skipped r y ≡ false)
    × (s.synced ≡ true)
    × (s.count < r.cap)
    × (s.pending ≡ false → eqb y r.escapes.escape ≡ false)

abbrev pub escape_first : Rule → List ℕ → Bool
escape_first r [] = false
escape_first r (z ∷ zs) = not (eqb z r.escapes.flag) && eqb z r.escapes.escape

abbrev pub waiting : State → Bool → State
waiting s w = record { synced = s.synced; pending = w; bad = s.bad; count = s.count; check = s.check }
