-- Nothing is taken, or pairs are.
use Rattle.line.proofs.Scan.{after_zero}
use Rattle.deframer.proofs.pairs.take.Goals as goal

pub returns-then-rule-eq-SUM-clause-ahead : goal.returns-then-rule-eq-SUM-clause-ahead
returns-then-rule-eq-SUM-clause-ahead c = after_zero _

pub returns-clause-ahead : goal.returns-clause-ahead
returns-clause-ahead c = after_zero _
