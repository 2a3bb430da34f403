-- `convert_stdin::convert` meets its contract. Assumes nothing.
use Rattle.std.proofs.Common.{lt-ltb, le-ltb}
use Rattle.convert_stdin.proofs.convert.Goals as goal

pub returns-then-level-gt-MAX_LEVEL : goal.returns-then-level-gt-MAX_LEVEL
returns-then-level-gt-MAX_LEVEL c = simp (lt-ltb _ _ c.if-level-gt-MAX_LEVEL.true)

pub returns-in-Some : goal.returns-in-Some
returns-in-Some c = simp (le-ltb _ _ c.if-level-gt-MAX_LEVEL.false)

pub returns-in_default : goal.returns-in_default
returns-in_default c = simp (le-ltb _ _ c.if-level-gt-MAX_LEVEL.false)
