-- `fcs::shift_word`: the division of a word.
use Rattle.std.proofs.Common.{arith}
use Rattle.fcs.proofs.Words.{quotient, remainder, word_lt, word_shifted}
use Rattle.fcs.proofs.shift_word.Goals as goal

pub overflow_cast-result : goal.overflow_cast-result
unfolding quotient remainder
overflow_cast-result c = omega (arith, word_lt c.args.d (omega arith))

pub returns : goal.returns
unfolding quotient remainder
returns c = word_shifted c.args.d (omega arith)
