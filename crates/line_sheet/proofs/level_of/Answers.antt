-- `line_sheet::level_of` meets its contract: no number, a number that is no level, a level. Assumes nothing.
use Rattle.std.proofs.Common.{sym, arith}
use Rattle.line_sheet.proofs.LevelLaws.{level_is, level_over, level_none}
use Rattle.line_sheet.proofs.level_of.Goals as goal

pub returns-in_default : goal.returns-in_default
returns-in_default c = level_none c.args.typed c.in_default.not-Some

pub returns-then-from-n : goal.returns-then-from-n
returns-then-from-n c = sym (level_over _ _ c.in-Some.is (omega (arith, c.from.ensures, c.if-from-n.true)))

pub returns : goal.returns
returns c = sym (level_is _ _ c.in-Some.is (omega (arith, c.from.ensures, c.if-from-n.false)))
