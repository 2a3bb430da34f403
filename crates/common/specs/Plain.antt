-- Octets of which none is special, so that they go on a line, or come from one, as they are. Cited by readers and writers. Assumes nothing.
use Rattle.std.specs.Prelude.{ℕ, suc, Bool, true, false, cond, List, [], ◌∷◌}

-- whether a test holds of no octet of a list
unfoldable pub plain : (special : ℕ → Bool) → List ℕ → Bool
plain special [] = true
plain special (x ∷ xs) = cond (special x) false (plain special xs)

-- how many octets stand before the first one of which it holds; all where there is none
unfoldable pub plain_length : (special : ℕ → Bool) → List ℕ → ℕ
plain_length special [] = 0
plain_length special (x ∷ xs) = cond (special x) 0 (suc (plain_length special xs))
