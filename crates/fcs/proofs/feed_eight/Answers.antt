-- `fcs::feed_eight`: a word is its octets.
use Rattle.std.proofs.Common.{sym, arith}
use Rattle.fcs.proofs.Words.{eight_fed}
use Rattle.fcs.proofs.feed_eight.Goals as goal

pub returns : goal.returns
returns c =
    eight_fed c.args.register c.word.result c.shift_word.result c.args.octets.now (λ i. omega (arith, c.type_inv.octets i)) c.requires
    c.word.ensures (rw (sym c.from.ensures) c.shift_word.ensures)
