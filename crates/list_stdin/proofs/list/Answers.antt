-- `list_stdin::list` meets its contract. Assumes nothing.
use Rattle.std.proofs.Common.{lt-ltb, le-ltb}
use Rattle.list_stdin.proofs.list.Goals as goal

pub returns-then-level-gt-MAX_LEVEL : goal.returns-then-level-gt-MAX_LEVEL
returns-then-level-gt-MAX_LEVEL c = simp (lt-ltb _ _ c.if-level-gt-MAX_LEVEL.true)

pub returns : goal.returns
returns c = simp (le-ltb _ _ c.if-level-gt-MAX_LEVEL.false)
