-- `fcs::feed_last`: the last octets of a word, moved to its top.
use Rattle.std.proofs.Common.{sym, refl, arith}
use Rattle.fcs.proofs.Last.{last_fed}
use Rattle.fcs.proofs.feed_last.Goals as goal

pub returns : goal.returns
returns c =
    last_fed c.args.register c.word.result c.shift_word.result c.args.k _ c.args.octets.now (omega arith) (λ i. omega (arith, c.type_inv.octets i))
    c.requires.octets_len c.requires.le_k.0 c.requires.le_k.1 refl c.word.ensures (rw (sym c.from.ensures) c.shift_word.ensures)
