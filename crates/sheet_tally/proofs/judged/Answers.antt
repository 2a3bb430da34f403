-- `sheet_tally::judged`: a law for each answer.
use Rattle.std.proofs.Common.{◌∙◌, arith}
use Rattle.sheet_tally.proofs.Judging.{judged_refused, judged_over, judged_past, judged_added}
use Rattle.sheet_tally.proofs.judged.Goals as goal

pub returns-then-counts-ne0-clause-answer : goal.returns-then-counts-ne0-clause-answer
returns-then-counts-ne0-clause-answer c = judged_refused _ _ _ _ c.if-counts-ne0.true

pub returns-then-line-ge-LINES-clause-answer : goal.returns-then-line-ge-LINES-clause-answer
returns-then-line-ge-LINES-clause-answer c = judged_over _ _ _ _ (omega arith) (omega (arith, c.if-line-ge-LINES.true))

pub returns-then-lines-line-clause-answer : goal.returns-then-lines-line-clause-answer
returns-then-lines-line-clause-answer c = judged_past _ _ _ _ (omega arith) (omega (arith, c.if-lines-line.true))

pub returns-clause-answer : goal.returns-clause-answer
returns-clause-answer c = c.add.ensures.answer ∙ judged_added _ _ _ _ (omega arith) (omega (arith, c.if-line-ge-LINES.false)) (omega (arith, c.if-lines-line.false))
