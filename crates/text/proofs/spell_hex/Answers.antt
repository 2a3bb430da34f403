-- `text::spell_hex` meets its contract. Assumes nothing.
use Rattle.std.proofs.Common.{◌+◌, ◌*◌, ◌≡◌, sym, ap, ◌∙◌, arith}
use lib.Seq.{sets}
use Rattle.text.proofs.Text.{length-hex, hex_end, hex_next, sets-pair}
use Rattle.text.proofs.spell_hex.Goals as goal

pub loop-i-preserved : goal.loop-i-preserved
loop-i-preserved c =
    let s = c.args in
    let l = c.loop-i in
    let e = hex_next s.octets.now l.i c.loop-i-test.true in
    let z : s.at + 2 * (l.i + 1) ≡ s.at + 2 * l.i + 2 = omega arith in
    rw (z, c.hex_digit-in-loop-i.ensures, c.hex_digit.ensures) (sym (sets-pair l.out (s.at + 2 * l.i) _ _ _ _ e) ∙ l.invariant)

pub returns : goal.returns
returns c =
    let s = c.args in
    let l = c.loop-i in
    record {
      value = omega (arith, length-hex s.octets.now);
      out_after = sym (ap (sets l.out (s.at + 2 * l.i)) (hex_end s.octets.now l.i c.loop-i-test.false)) ∙ l.invariant;
    }
