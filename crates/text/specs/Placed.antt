-- A text that was put into a lent buffer which had room for it. Cited by the functions that put a line piece by piece. Assumes nothing.
use Rattle.std.specs.Prelude.{ℕ, ◌+◌, List, ◌≡◌, length}
use Rattle.std.proofs.lemmas.List.Edits.{sets}

-- the octets xs stand in the buffer m', which was m, from the index i on, and j is the index behind them
pub record Placed (m : List ℕ) (i : ℕ) (xs m' : List ℕ) (j : ℕ) : Type 0 where
  pub behind : j ≡ i + length xs
  pub octets : m' ≡ sets m i xs
