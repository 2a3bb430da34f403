-- A whole capture, as a list of octets, of a line with one flag: octets before its first flag, flags, octets between two of them, octets after the
-- last. Cited by the listing, the line sheet and `Octets::add`. Assumes nothing.
use Rattle.std.specs.Prelude.{ℕ, suc, cond, List, [], ◌∷◌, eqb, length}
use Rattle.framing.specs.Flags.{has_flag}

module _ (flag : ℕ) where
  -- raw octets before the first flag; "with no flag, all octets are before"
  unfoldable pub before : List ℕ → ℕ
  before [] = 0
  before (x ∷ xs) = cond (eqb x flag) 0 (suc (before xs))

  unfoldable pub flags : List ℕ → ℕ
  flags [] = 0
  flags (x ∷ xs) = cond (eqb x flag) (suc (flags xs)) (flags xs)

  -- octets with a flag somewhere behind them
  unfoldable pub closed : List ℕ → ℕ
  closed [] = 0
  closed (x ∷ xs) = cond (eqb x flag) (closed xs) (cond (has_flag flag xs) (suc (closed xs)) 0)

  -- octets with a flag somewhere before them, and one behind them
  unfoldable pub between : List ℕ → ℕ
  between [] = 0
  between (x ∷ xs) = cond (eqb x flag) (closed xs) (between xs)

  -- raw octets after the last flag; none where there is no flag
  unfoldable pub after : List ℕ → ℕ
  after [] = 0
  after (x ∷ xs) = cond (has_flag flag xs) (after xs) (cond (eqb x flag) (length xs) 0)
