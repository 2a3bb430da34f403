-- Framing: whether a line has a flag. Cited by the plain reading of a line, and by counts of its octets. Assumes nothing.
use Rattle.std.specs.Prelude.{ℕ, Bool, true, false, cond, List, [], ◌∷◌, eqb}

unfoldable pub has_flag : (flag : ℕ) → List ℕ → Bool
has_flag flag [] = false
has_flag flag (x ∷ xs) = cond (eqb x flag) true (has_flag flag xs)
