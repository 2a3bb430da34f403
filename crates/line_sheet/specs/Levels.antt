-- The level among a program's arguments. Cited by `level_of`. Assumes nothing.
use Rattle.std.specs.Prelude.{ℕ, Option, Some, None, cond, leb}
use Rattle.qaft.specs.Limits.{max_level}

-- a level is 0 or 1
unfoldable pub level_of : Option ℕ → Option ℕ
level_of (Some n) = cond (leb n max_level) (Some n) None
level_of None = None
